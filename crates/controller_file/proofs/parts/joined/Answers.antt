use Rattle.std.proofs.Common.{rules}
use Rattle.text_lines.specs.Lines.{views}
use Rattle.controller_file.specs.Following.{IsAnyWhole}
use Rattle.text_lines.proofs.Beginnings.{begun}
use Rattle.controller_file.proofs.parts.joined.Goals as goal

pub returns : goal.returns
returns c = search rules

pub sizes_in-sizes-requires : goal.sizes_in-sizes-requires
sizes_in-sizes-requires c = begun IsAnyWhole (views c.args.lines.now) c.requires
