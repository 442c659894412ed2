use Rattle.std.proofs.Common.{refl}
use Rattle.std.specs.Int.{w64}
use Rattle.std.proofs.lemmas.Int.{to_z-of_z, fits_signed_from_abs}
use Rattle.fixed_kernel.proofs.WordSums.{one_shifted}
use Rattle.fixed_kernel.proofs.wordwise.word_raised.Goals as goal

pub overflow_mul-result : goal.overflow_mul-result
overflow_mul-result c = rw (to_z-of_z w64 _ c.ranges.v, one_shifted c.args.k c.requires.bits) (fits_signed_from_abs w64 _ c.requires.room)

pub returns : goal.returns
returns c = rw (to_z-of_z w64 _ c.ranges.v, one_shifted c.args.k c.requires.bits, to_z-of_z w64 _ (fits_signed_from_abs w64 _ c.requires.room)) refl
