-- What a version behind an index is known for.
--     entry_valid    the strings are not too long, and it is a valid one, the one that is stored there
--     and_both       both of two tests
--     name_inside    its name lies in the strings
-- Assumes nothing.
use Rattle.std.proofs.Common.{ℕ, ◌≤◌, ◌≡◌, refl, sym, ap, ◌∙◌, Bool, true, false, cond, ◌&&◌, List, ltb, eqb, length, ltb-false, Result, Ok, Err, Option, Some, None}
use Rattle.endian.specs.declared.refusals.Refusal.{Refusal}
use Rattle.endian.specs.Refusals.{limit, too_long, bad_version_index}
use Rattle.strings.proofs.Meaning.{false_true}
use Rattle.version.specs.Index.{is_special}
use Rattle.version.specs.Store.{store_needs}
use Rattle.version.specs.Table.{stored_at, inside, valid, entry_at}
use Rattle.version.specs.declared.index.VersionIndex.{VersionIndex}
use Rattle.version.specs.declared.store.Version.{Version}

module _ (store strings : List ℕ) (index : VersionIndex) (v : Version) where
  pub entry_valid : entry_at store strings index ≡ Ok (Some v)
      → (length strings ≤ limit) × (valid strings (stored_at store index) ≡ true) × (stored_at store index ≡ v)
  unfolding entry_at
  entry_valid read =
      let k = by (ltb limit (length strings)) (is_special index) (ltb (length store) (store_needs index))
      (valid strings (stored_at store index)) read in
      (ltb-false limit (length strings) k.0, k.1, k.2)
    where
      by : (t u w z : Bool)
          → cond {A = Result (Option Version) Refusal} t (Err too_long) (cond u (Ok None) (cond w (Err bad_version_index)
          (cond z (Ok (Some (stored_at store index))) (Err bad_version_index)))) ≡ Ok (Some v)
          → (t ≡ false) × (z ≡ true) × (stored_at store index ≡ v)
      by true u w z h = cc
      by false true w z h = cc
      by false false true z h = cc
      by false false false true h = (refl, refl, cc)
      by false false false false h = cc

pub and_both : (a b : Bool) → (a && b) ≡ true → (a ≡ true) × (b ≡ true)
and_both true b h = (refl, h)
and_both false b h = false_true h

pub name_inside : (store strings : List ℕ) (index : VersionIndex) (v : Version)
    → entry_at store strings index ≡ Ok (Some v)
    → inside strings v.name ≡ true
unfolding valid
name_inside store strings index v read =
    let known = entry_valid store strings index v read in
    by (eqb v.kind 1) (eqb v.kind 2) (ap (valid strings) (sym known.2) ∙ known.1)
  where
    by : (t u : Bool)
        → cond t (inside strings v.name) (cond u (inside strings v.name && inside strings v.file) false) ≡ true
        → inside strings v.name ≡ true
    by true u h = h
    by false true h = (and_both _ _ h).0
    by false false h = false_true h
