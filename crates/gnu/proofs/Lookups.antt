-- A lookup in a table, a law for each answer, under the tests before it.
--     start_none, _past, _below, _values, _is     where the walk of a hash starts
--     InRange, start_range                        a start that is not 0 is a symbol of the table, with a value
--     lookup_stops, _refuses, _nowhere, _walks    what the lookup gives
-- Assumes nothing.
use Rattle.std.proofs.Common.{ℕ, ◌-◌, ◌%◌, ◌≤◌, ◌<◌, ◌≡◌, sym, Bool, true, false, not, ◌&&◌, leb, eqb, eqb-true, leb-true, eq-eqb, ne_eqb, le-leb, Ok, Err}
use mathlib.Core.Bool.{and-false}
use borrow.Author.Tests.{lt-leb}
use Rattle.endian.specs.declared.refusals.Refusal.{Refusal}
use Rattle.lookup.specs.Wanted.{missing, walk}
use Rattle.lookup.proofs.Picking.{by-test, and_left, and_right}
use Rattle.gnu_table.specs.Table.{GnuTable, bloom_filter, value_of, same_but_low}
use Rattle.gnu.specs.Lookup.{starts, start_of, gnu_chain, gnu_lookup}

module _ (t : GnuTable) (h : ℕ) where
  pub start_none : t.bucket_count ≡ 0 → start_of t h ≡ 0
  unfolding start_of
  start_none e = rw (eq-eqb t.bucket_count 0 e)

  module _ (buckets : t.bucket_count ≡ 0 → ⊥) (v : ℕ) (value : t.bucket (h % t.bucket_count) ≡ v) where
    stops : starts t v ≡ false → start_of t h ≡ 0
    unfolding start_of
    stops e = rw (ne_eqb t.bucket_count 0 buckets, value, e)

    pub start_past : t.count < v → start_of t h ≡ 0
    start_past more = stops (rw (lt-leb v t.count more, and-false))

    pub start_below : v < t.base → start_of t h ≡ 0
    start_below less = stops (simp (lt-leb t.base v less, and-false))

    pub start_values : t.value_count < v - t.base → start_of t h ≡ 0
    start_values more = stops (simp (lt-leb (v - t.base) t.value_count more, and-false))

    pub start_is : v ≤ t.count → t.base ≤ v → v - t.base ≤ t.value_count → start_of t h ≡ v
    unfolding start_of
    start_is a b c =
        rw (ne_eqb t.bucket_count 0 buckets, value, le-leb v t.count a, le-leb t.base v b, le-leb (v - t.base) t.value_count c)
        (by-test (eqb v 0) (λ e. rw e (sym (eqb-true v 0 e))) (λ e. rw e))

  pub record InRange (v : ℕ) : Type 0 where
    pub high : v ≤ t.count
    pub low : t.base ≤ v
    pub valued : v - t.base ≤ t.value_count

  starts_range : (v : ℕ) → starts t v ≡ true → InRange v
  starts_range v s =
      let rest = and_right (not (eqb v 0)) (leb v t.count && (leb t.base v && leb (v - t.base) t.value_count)) s in
      let both = and_right (leb v t.count) (leb t.base v && leb (v - t.base) t.value_count) rest in
      record {
        high = leb-true _ _ (and_left (leb v t.count) (leb t.base v && leb (v - t.base) t.value_count) rest);
        low = leb-true _ _ (and_left (leb t.base v) (leb (v - t.base) t.value_count) both);
        valued = leb-true _ _ (and_right (leb t.base v) (leb (v - t.base) t.value_count) both);
      }

  pub start_range : (start_of t h ≡ 0 → ⊥) → InRange (start_of t h)
  unfolding start_of
  start_range apart =
      by-test (eqb t.bucket_count 0) (λ e. absurd (apart (rw e)))
      (λ e. by-test (starts t (t.bucket (h % t.bucket_count)))
      (λ s. rw (e, s) (starts_range (t.bucket (h % t.bucket_count)) s)) (λ s. absurd (apart (rw (e, s)))))

  module _ (wanted : ℕ → Bool) where
    pub lookup_stops : bloom_filter t h ≡ Ok false → gnu_lookup t h wanted ≡ Ok (missing 0)
    unfolding gnu_lookup
    lookup_stops e = rw e

    pub lookup_refuses : (r : Refusal) → bloom_filter t h ≡ Err r → gnu_lookup t h wanted ≡ Err r
    unfolding gnu_lookup
    lookup_refuses r e = rw e

    pub lookup_nowhere : bloom_filter t h ≡ Ok true → start_of t h ≡ 0 → gnu_lookup t h wanted ≡ Ok (missing 0)
    unfolding gnu_lookup
    lookup_nowhere e none_there = rw (e, none_there)

    pub lookup_walks : bloom_filter t h ≡ Ok true → (v : ℕ) → start_of t h ≡ v → (v ≡ 0 → ⊥)
        → gnu_lookup t h wanted ≡ Ok (walk (λ i. same_but_low (value_of t i) h && wanted i) (gnu_chain t v))
    unfolding gnu_lookup
    lookup_walks e v start apart = rw (e, start, ne_eqb v 0 apart)
