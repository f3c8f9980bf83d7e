-- What cannot be shows anything. Assumes nothing.
use Rattle.std.proofs.Common.{ℕ, ◌≡◌, true, false, arith}

pub false_true : {A : Type 0} → false ≡ true → A
false_true e = let z : ◌≡◌ {A = ℕ} 0 1 = cc in absurd (omega arith)
