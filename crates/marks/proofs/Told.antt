-- The marks, by both counts of definitions: each is refused where a part is too long, and only there.
--     long_told     where one was refused
--     short_told    where both were made
-- Assumes nothing.
use Rattle.std.proofs.Common.{◌≡◌, ℕ, Bool, true, false, cond, Result, Ok, Err, refl, ap, ◌∙◌}
use Rattle.endian.specs.declared.refusals.Refusal.{Refusal}
use Rattle.marks.specs.declared.Marks.{Marks}

pub long_told : (long : Bool) (a : ℕ) (refused r : Refusal) (marks : Result Marks Refusal)
    → Err r ≡ cond {A = Result ℕ Refusal} long (Err refused) (Ok a)
    → Err r ≡ cond long (Err refused) marks
long_told true a refused r marks h = let z : r ≡ refused = cc in ap (λ x. Err x) z
long_told false a refused r marks h = cc

pub short_told : (long : Bool) (a b m n : ℕ) (refused : Refusal) (marks : ℕ → ℕ → Result Marks Refusal)
    → Ok m ≡ cond {A = Result ℕ Refusal} long (Err refused) (Ok a)
    → Ok n ≡ cond {A = Result ℕ Refusal} long (Err refused) (Ok b)
    → marks m n ≡ cond long (Err refused) (marks a b)
short_told true a b m n refused marks h k = cc
short_told false a b m n refused marks h k =
    let y : m ≡ a = cc in
    let z : n ≡ b = cc in
    rw (y, z)
