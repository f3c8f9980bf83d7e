-- What a step that can be refused comes to.
--     fine_same, stop_fine    two values are the same; a refusal is no value
--     cond_fine, bind_from    what was tested, and what came before, where a value came out
--     bind_fine, bind_stop    a bind whose first part is known
--     folded_both             one list and then another
--     both_go, both_leave     the same where the first is known
-- Assumes nothing.
use Rattle.std.proofs.Common.{◌≡◌, refl, sym, ap, ◌∙◌, Bool, true, false, cond, List, Ok, Err}
use mathlib.Core.List.{foldl-append}
use Rattle.endian.specs.declared.refusals.Refusal.{Refusal}
use Rattle.version_records.specs.Outcome.{Outcome, bind, both, folded}

module _ {A : Type 0} where
  pub fine_same : (a b : A) → ◌≡◌ {A = Outcome A} (Ok a) (Ok b) → a ≡ b
  fine_same a b h = cc

  pub stop_fine : (e : Refusal) (a : A) → ◌≡◌ {A = Outcome A} (Err e) (Ok a) → ⊥
  stop_fine e a h = cc

  pub cond_fine : (t : Bool) (e : Refusal) (k : Outcome A) (a : A) → cond t (Err e) k ≡ Ok a
      → (t ≡ false) × (k ≡ Ok a)
  cond_fine true e k a h = absurd (stop_fine e a h)
  cond_fine false e k a h = (refl, h)

module _ {A B : Type 0} (o : Outcome A) (k : A → Outcome B) where
  pub bind_fine : (a : A) → o ≡ Ok a → bind o k ≡ k a
  bind_fine a h = rw h

  pub bind_stop : (e : Refusal) → o ≡ Err e → bind o k ≡ Err e
  bind_stop e h = rw h

pub bind_from : {A B : Type 0} (o : Outcome A) (k : A → Outcome B) (b : B) → bind o k ≡ Ok b
    → (a : A) × (o ≡ Ok a) × (k a ≡ Ok b)
bind_from (Ok a) k b h = (a, refl, h)
bind_from (Err e) k b h = absurd (stop_fine e b h)

module _ {A B : Type 0} (f : B → A → B) (b : B) (p q : Outcome (List A)) where
  pub folded_both : folded f b (both p q) ≡ bind (folded f b p) (λ b'. folded f b' q)
  folded_both = by p q
    where
      by : (p q : Outcome (List A)) → folded f b (both p q) ≡ bind (folded f b p) (λ b'. folded f b' q)
      by (Ok xs) (Ok ys) = ap Ok (foldl-append f b xs ys)
      by (Ok xs) (Err e) = refl
      by (Err e) q = refl

  pub both_go : (b' : B) → Ok b' ≡ folded f b p → folded f b (both p q) ≡ folded f b' q
  both_go b' h = folded_both ∙ bind_fine (folded f b p) (λ b'. folded f b' q) b' (sym h)

  pub both_leave : (e : Refusal) → Err e ≡ folded f b p → folded f b (both p q) ≡ Err e
  both_leave e h = folded_both ∙ bind_stop (folded f b p) (λ b'. folded f b' q) e (sym h)
