-- `gnu_check::check::check_buckets` meets its contract: each return is the law of its answer. Assumes nothing.
use Rattle.std.proofs.Common.{◌≡◌, Ok, None, sym, ap, ◌∙◌}
use Rattle.std.proofs.Math.Option.{none}
use Rattle.lookup.specs.Pick.{from}
use Rattle.gnu_rules.specs.Rules.{bucket_right, lowest}
use Rattle.gnu_check_hashes.specs.Lent.{table_of}
use Rattle.gnu_check_ends.specs.Ends.{ends_run}
use Rattle.gnu_check.proofs.Judged.{numbered, unnumbered, lowest_at, lowest_nowhere, wrong_bucket_lem, right_buckets, ends_search, from_buckets_10, from_buckets_accepted}
use Rattle.gnu_check.proofs.check.check_buckets.Goals as goal

pub returns-in-Some : goal.returns-in-Some
returns-in-Some c =
    let t = table_of c.args.table in
    sym (wrong_bucket_lem t c.requires.0 c.requires.2 c.in-Some.bucket (sym c.in-Some.is ∙ c.lowest_wrong_bucket.ensures))

pub returns-in-Some-lowest_wrong_end : goal.returns-in-Some-lowest_wrong_end
returns-in-Some-lowest_wrong_end c =
    let t = table_of c.args.table in
    -- no bucket is wrong
    let nine : lowest (bucket_right t) (from 0 t.bucket_count) ≡ none =
    right_buckets t c.requires.0 c.requires.2 (sym c.in_default.is ∙ c.lowest_wrong_bucket.ensures) in
    let symbol = c.in-Some-lowest_wrong_end.end in
    sym (from_buckets_10 t c.requires.0 c.requires.1 nine symbol.0
    (lowest_at t (ends_run t) symbol.0
    (numbered symbol _ (sym c.in-Some-lowest_wrong_end.is ∙ c.lowest_wrong_end.ensures) ∙ ends_search t c.requires.0)))

pub returns : goal.returns
returns c =
    let t = table_of c.args.table in
    -- no bucket is wrong
    let nine : lowest (bucket_right t) (from 0 t.bucket_count) ≡ none =
    right_buckets t c.requires.0 c.requires.2 (sym c.in_default.is ∙ c.lowest_wrong_bucket.ensures) in
    ap (λ n. Ok n) c.longest_chain.ensures
    ∙ sym (from_buckets_accepted t c.requires.0 c.requires.1 nine
    (lowest_nowhere t (ends_run t)
    (unnumbered _ (sym c.in_default-lowest_wrong_end.is ∙ c.lowest_wrong_end.ensures) ∙ ends_search t c.requires.0)))
