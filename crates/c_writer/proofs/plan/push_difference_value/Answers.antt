use Rattle.std.proofs.Common.{◌++◌, decimal, codes, string_bytes}
use Rattle.c_writer.proofs.Texts.{three_more}
use Rattle.c_writer.proofs.plan.push_difference_value.Goals as goal

pub returns : goal.returns
returns c =
    three_more (string_bytes c.args.text.now) (string_bytes c.push_value.new.text) (string_bytes c.push_str.new.self) (string_bytes c.push_value-2.new.text)
    (codes "(int64_t)" ++ (codes "l" ++ decimal c.args.i)) (codes " - ") (codes "(int64_t)" ++ (codes "l" ++ decimal c.args.k))
    c.in_ok-push_value.ensures c.in_ok-push_str.ensures.bytes c.in_ok-push_value-2.ensures
