use Rattle.std.proofs.Common.{◌∙◌, refl, inr}
use Rattle.csv.specs.Reading.{strip_bom}
use Rattle.policy_file.proofs.text.text_records.Goals as goal

pub returns : goal.returns
returns c =
    let made = c.from_reader.ensures in
    let e = c.has_headers.ensures in
    let k = c.flexible.ensures in
    let rdr = c.into_byte_records.ensures.rdr in
    record {
      trim = rw rdr ((rw (k, e) at made.trim) ∙ c.new.ensures.trim);
      ready = rw rdr (inr (inr (rw (k, e) at made.has_headers, made.headers)));
      turns = c.into_byte_records.ensures.left;
      config = rw rdr ((rw (k, e) at made.config) ∙ c.new.ensures.config);
      start = rw (rdr, made.state) refl;
      bytes = strip_bom c.args.text.now;
      source = rw rdr made.source;
      records = rw (rdr, made.state) refl;
    }
