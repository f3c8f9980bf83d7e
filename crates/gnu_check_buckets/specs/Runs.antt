-- Need not be believed: G9 by runs of neighbours in one bucket, as one pass over the symbols and one over the buckets see
-- them. After G7 it is G9 itself: `Wrong.least_wrong_lem` of `gnu_check`.
--     lesser             the lesser of two numbers, where there are any
--     is_bucket          a bucket is one that is known
--     may_be             by its value alone, a symbol may be of a bucket
--     run_start          the start of the run of equal buckets that a hashed symbol is in, by how far it is past symbol_base
--     misplaced          a symbol whose bucket does not hold the start of its run
--     begins             a symbol is the start of a run of a bucket, and by its value may be of it
--     stray              a bucket that holds neither 0 nor such a symbol
--     least_misplaced    the lowest bucket of a misplaced symbol
--     least_wrong        the lowest bucket that is stray, or that a misplaced symbol is in
--     wrong_bucket       the same; of no buckets, none is wrong
-- Assumes nothing.
use Rattle.std.specs.Prelude.{ℕ, zero, suc, ◌+◌, ◌-◌, ◌*◌, ◌/◌, ◌%◌, min, Bool, cond, not, ◌&&◌, ◌||◌, leb, ltb, eqb, false, Option, Some, None}
use Rattle.lookup.specs.Search.{first_from}
use Rattle.gnu_table.specs.Table.{GnuTable, value_of}
use Rattle.gnu_rules.specs.Rules.{gnu_bucket_of, in_bucket}

abbrev pub lesser : Option ℕ → Option ℕ → Option ℕ
lesser None o = o
lesser (Some a) None = Some a
lesser (Some a) (Some b) = Some (min a b)

abbrev pub is_bucket : ℕ → Option ℕ → Bool
is_bucket b None = false
is_bucket b (Some bucket) = eqb bucket b

-- the even number that equals the value but for the low bit, or the odd one, is the hash of a symbol of bucket b
abbrev pub may_be : (value buckets b : ℕ) → Bool
may_be value buckets b = eqb (value / 2 * 2 % buckets) b || eqb ((value / 2 * 2 + 1) % buckets) b

module _ (t : GnuTable) where
  unfoldable pub run_start : ℕ → ℕ
  run_start zero = t.base
  run_start (suc k) = cond (eqb (gnu_bucket_of t (t.base + k)) (gnu_bucket_of t (t.base + suc k))) (run_start k) (t.base + suc k)

  abbrev pub misplaced : ℕ → Bool
  misplaced i = not (eqb (t.bucket (gnu_bucket_of t i)) (run_start (i - t.base)))

  -- symbol v is the first of a run of bucket b; its value is asked first, so that few names are hashed
  abbrev pub begins : ℕ → ℕ → Bool
  begins b v =
      (leb t.base v && ltb v t.count) && (may_be (value_of t v) t.bucket_count b && (in_bucket t b v
      && (eqb v t.base || not (in_bucket t b (v - 1)))))

  unfoldable pub stray : ℕ → Bool
  stray b = not (eqb (t.bucket b) 0) && not (begins b (t.bucket b))

  -- of k symbols from i on
  unfoldable pub least_misplaced : ℕ → ℕ → Option ℕ
  least_misplaced i zero = None
  least_misplaced i (suc k) = lesser (cond (misplaced i) (Some (gnu_bucket_of t i)) None) (least_misplaced (suc i) k)

  abbrev pub least_wrong : Option ℕ
  least_wrong = lesser (first_from stray 0 t.bucket_count) (least_misplaced t.base (t.count - t.base))

  -- the lowest wrong bucket, if there is one
  unfoldable pub wrong_bucket : Option ℕ
  wrong_bucket = cond (eqb t.bucket_count 0) None least_wrong
