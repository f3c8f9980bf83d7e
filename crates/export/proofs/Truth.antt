-- A truth that is cast to a number is 1 or 0. Assumes nothing.
use Rattle.std.proofs.Common.{◌≡◌, refl, Bool, true, false}
use mir.Val.{bool_byte}
use Rattle.export.specs.Answers.{truth}

pub truth_byte : (t : Bool) → bool_byte t ≡ truth t
truth_byte true = refl
truth_byte false = refl
