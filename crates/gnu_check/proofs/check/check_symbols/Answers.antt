-- `gnu_check::check::check_symbols` meets its contract: each return is the law of its answer. Assumes nothing.
use Rattle.std.proofs.Common.{◌≡◌, sym, ◌∙◌}
use Rattle.std.proofs.Math.Option.{none}
use Rattle.gnu_table.specs.Table.{hashed}
use Rattle.gnu_rules.specs.Rules.{name_readable, value_is_hash, bloom_bits_set, lowest}
use Rattle.gnu_check_hashes.specs.Lent.{table_of}
use Rattle.gnu_check.proofs.Judged.{numbered, unnumbered, lowest_at, lowest_nowhere, bits_search, all_kept, from_names_6, from_names_7, from_names_8, from_names_kept}
use Rattle.gnu_check.proofs.check.check_symbols.Goals as goal

pub returns-in-Some : goal.returns-in-Some
returns-in-Some c =
    let t = table_of c.args.table in
    sym (from_names_6 t _ (lowest_at t (name_readable t) c.in-Some.unreadable.0
    (numbered c.in-Some.unreadable _ (sym c.in-Some.is ∙ c.lowest_unreadable.ensures))))

pub returns-in-Some-lowest_wrong_value : goal.returns-in-Some-lowest_wrong_value
returns-in-Some-lowest_wrong_value c =
    let t = table_of c.args.table in
    -- every name can be read
    let six : lowest (name_readable t) (hashed t) ≡ none =
    lowest_nowhere t (name_readable t) (unnumbered _ (sym c.in_default.is ∙ c.lowest_unreadable.ensures)) in
    let here = c.in-Some-lowest_wrong_value in
    sym (from_names_7 t six _ (lowest_at t (value_is_hash t) here.wrong.0
    (numbered here.wrong _ (sym here.is ∙ c.lowest_wrong_value.ensures))))

pub returns-in-Some-lowest_unset : goal.returns-in-Some-lowest_unset
returns-in-Some-lowest_unset c =
    let t = table_of c.args.table in
    -- every name can be read
    let six : lowest (name_readable t) (hashed t) ≡ none =
    lowest_nowhere t (name_readable t) (unnumbered _ (sym c.in_default.is ∙ c.lowest_unreadable.ensures)) in
    -- every value is right
    let seven : lowest (value_is_hash t) (hashed t) ≡ none =
    lowest_nowhere t (value_is_hash t) (unnumbered _ (sym c.in_default-lowest_wrong_value.is ∙ c.lowest_wrong_value.ensures)) in
    let here = c.in-Some-lowest_unset in
    sym (from_names_8 t six seven _ (lowest_at t (bloom_bits_set t) here.unset.0
    (numbered here.unset _ (sym here.is ∙ c.lowest_unset.ensures) ∙ bits_search t c.requires.blooms c.requires.shift)))

pub check_buckets-requires : goal.check_buckets-requires
check_buckets-requires c =
    let t = table_of c.args.table in
    -- every value is right
    let seven : lowest (value_is_hash t) (hashed t) ≡ none =
    lowest_nowhere t (value_is_hash t) (unnumbered _ (sym c.in_default-lowest_wrong_value.is ∙ c.lowest_wrong_value.ensures)) in
    (c.requires.buckets, c.requires.base, all_kept t c.requires.base (value_is_hash t) seven)

pub returns : goal.returns
returns c =
    let t = table_of c.args.table in
    -- every name can be read
    let six : lowest (name_readable t) (hashed t) ≡ none =
    lowest_nowhere t (name_readable t) (unnumbered _ (sym c.in_default.is ∙ c.lowest_unreadable.ensures)) in
    -- every value is right
    let seven : lowest (value_is_hash t) (hashed t) ≡ none =
    lowest_nowhere t (value_is_hash t) (unnumbered _ (sym c.in_default-lowest_wrong_value.is ∙ c.lowest_wrong_value.ensures)) in
    c.check_buckets.ensures
    ∙ sym (from_names_kept t six seven
    (lowest_nowhere t (bloom_bits_set t)
    (unnumbered _ (sym c.in_default-lowest_unset.is ∙ c.lowest_unset.ensures) ∙ bits_search t c.requires.blooms c.requires.shift)))
