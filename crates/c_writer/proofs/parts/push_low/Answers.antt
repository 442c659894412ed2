use Rattle.std.proofs.Common.{◌++◌, decimal, codes, string_bytes}
use Rattle.c_writer.specs.Terms.{declared_text, given_end}
use Rattle.c_writer.proofs.InParts.{low_more}
use Rattle.c_writer.proofs.parts.push_low.Goals as goal

pub returns : goal.returns
returns c =
    let k = c.args.number in
    low_more (string_bytes c.args.text.now) (string_bytes c.push_declared.new.text) (string_bytes c.push_value.new.text) (string_bytes c.push_str.new.self) (string_bytes c.push_value-2.new.text)
    (string_bytes c.push_str-2.new.self) (string_bytes c.push_end.new.text) (declared_text (codes "        ") (codes "int32_t") (c.args.low.now ++ decimal k)) (codes "(int64_t)" ++ (c.args.whole.now ++ decimal k))
    (codes " - (INT64_C(65536) * ") (codes "(int64_t)" ++ (c.args.high.now ++ decimal k)) (codes ")") given_end
    c.in_ok-push_declared.ensures c.in_ok-push_value.ensures c.in_ok-push_str.ensures.bytes c.in_ok-push_value-2.ensures c.in_ok-push_str-2.ensures.bytes c.in_ok-push_end.ensures
