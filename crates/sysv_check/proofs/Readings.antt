-- A test of all numbers of a run, by the search for the first that fails it.
--     every_searched, every_missed    what the search's answer says of the test: none fails, or one does
-- Assumes nothing.
use Rattle.std.proofs.Common.{◌≡◌, ℕ, ◌-◌, Bool, true, false, not, List, Option, Some, None, is_some, refl, sym, ap, ◌∙◌}
use Rattle.std.proofs.Math.Option.{some-ne-none}
use Rattle.lookup.specs.Pick.{from}
use Rattle.lookup.specs.Search.{first_from}
use Rattle.lookup.proofs.Picking.{all_map, by-test, not_none, first_of_none, none_first_of}
use Rattle.lookup.proofs.Searching.{first_some, first_none}
use Rattle.sysv_check.specs.Count.{every}
use Rattle.sysv_check.proofs.Counting.{every_all, all_every}

module _ (p : ℕ → Bool) (low count : ℕ) where
  abbrev fails : ℕ → Bool
  fails i = not (p i)

  abbrev run : List ℕ
  run = from low (count - low)

  pub every_searched : is_some (first_from fails low count) ≡ false → every p run ≡ true
  every_searched nothing = go (first_from fails low count) refl nothing
    where
      go : (o : Option ℕ) → o ≡ first_from fails low count → is_some o ≡ false → every p run ≡ true
      go None answer h =
          all_every p run (all_map (λ i e. not_none (p i) e) run (none_first_of fails run (first_none fails low count answer)))
      go (Some r) answer h = cc

  pub every_missed : is_some (first_from fails low count) ≡ true → every p run ≡ false
  every_missed something = go (first_from fails low count) refl something
    where
      go : (o : Option ℕ) → o ≡ first_from fails low count → is_some o ≡ true → every p run ≡ false
      go None answer h = cc
      go (Some r) answer h =
          by-test (every p run)
          (λ e. absurd (some-ne-none r
          (sym (first_some fails low count r answer)
          ∙ first_of_none fails run (all_map (λ i each. ap not each) run (every_all p run e)))))
          (λ e. e)
