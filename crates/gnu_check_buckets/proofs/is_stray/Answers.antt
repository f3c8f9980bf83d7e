-- `gnu_check_buckets::is_stray` meets its contract: each return is the law of its answer. Assumes nothing.
use Rattle.std.proofs.Common.{ℕ, ◌-◌, ◌%◌, ◌≡◌, refl, sym, ap, ◌∙◌, eqb, true, false}
use Rattle.gnu_table.specs.Table.{value_of}
use Rattle.gnu_rules.specs.Rules.{gnu_hash_at, gnu_bucket_of}
use Rattle.gnu_check_hashes.specs.Lent.{table_of}
use Rattle.gnu_check_hashes.specs.declared.table.Table.{Table}
use Rattle.gnu_check_hashes.specs.Names.{hash_in}
use Rattle.gnu_check_buckets.specs.Runs.{may_be}
use Rattle.gnu_check_buckets.proofs.Straying.{stray_zero, stray_below, stray_past, stray_ruled_out, stray_other, stray_first, stray_before}
use Rattle.gnu_check_buckets.proofs.is_stray.Goals as goal

-- the bucket that is computed is the definition's
bucket_is : (table : Table) (i : ℕ)
    → hash_in table.class table.order table.symbols.now table.strings.now i % table.layout.bucket_count
    ≡ gnu_bucket_of (table_of table) i
unfolding gnu_hash_at hash_in
bucket_is table i = refl

pub returns-then-v-eq0 : goal.returns-then-v-eq0
returns-then-v-eq0 c =
    let a = c.args in
    let t = table_of a.table in
    let v = c.word_of-v.result in
    let held : t.bucket a.b ≡ v = sym c.word_of-v.ensures in
    sym (stray_zero t a.b v held c.if-v-eq0.true)

pub returns-then-v-layout : goal.returns-then-v-layout
returns-then-v-layout c =
    let a = c.args in
    let t = table_of a.table in
    let v = c.word_of-v.result in
    let held : t.bucket a.b ≡ v = sym c.word_of-v.ensures in
    sym (stray_below t a.b v held c.if-v-eq0.false c.if-v-layout.true)

pub returns-then-table-v : goal.returns-then-table-v
returns-then-table-v c =
    let a = c.args in
    let t = table_of a.table in
    let v = c.word_of-v.result in
    let held : t.bucket a.b ≡ v = sym c.word_of-v.ensures in
    sym (stray_past t a.b v held c.if-v-eq0.false c.if-v-layout.false c.if-table-v.true)

pub returns-then-not-may_be : goal.returns-then-not-may_be
returns-then-not-may_be c =
    let a = c.args in
    let t = table_of a.table in
    let v = c.word_of-v.result in
    let held : t.bucket a.b ≡ v = sym c.word_of-v.ensures in
    let may : may_be (value_of t v) t.bucket_count a.b ≡ false = sym (c.may_be.ensures ∙ rw c.word_of-value.ensures) ∙ c.if-not-may_be.true in
    sym (stray_ruled_out t a.b v held c.if-v-eq0.false c.if-v-layout.false c.if-table-v.false may)

pub returns-then-bucket_of-b : goal.returns-then-bucket_of-b
returns-then-bucket_of-b c =
    let a = c.args in
    let t = table_of a.table in
    let v = c.word_of-v.result in
    let held : t.bucket a.b ≡ v = sym c.word_of-v.ensures in
    let may : may_be (value_of t v) t.bucket_count a.b ≡ true = sym (c.may_be.ensures ∙ rw c.word_of-value.ensures) ∙ c.if-not-may_be.false in
    let own : c.bucket_of.result ≡ gnu_bucket_of t v = c.bucket_of.ensures.0 ∙ bucket_is a.table v in
    sym (stray_other t a.b v held c.if-v-eq0.false c.if-v-layout.false c.if-table-v.false may (λ mine. c.if-bucket_of-b.true (own ∙ mine)))

pub returns-then-v-layout-2 : goal.returns-then-v-layout-2
returns-then-v-layout-2 c =
    let a = c.args in
    let t = table_of a.table in
    let v = c.word_of-v.result in
    let held : t.bucket a.b ≡ v = sym c.word_of-v.ensures in
    let may : may_be (value_of t v) t.bucket_count a.b ≡ true = sym (c.may_be.ensures ∙ rw c.word_of-value.ensures) ∙ c.if-not-may_be.false in
    let own : c.bucket_of.result ≡ gnu_bucket_of t v = c.bucket_of.ensures.0 ∙ bucket_is a.table v in
    sym (stray_first t a.b v held c.if-v-eq0.false c.if-v-layout.false c.if-table-v.false may (sym own ∙ c.if-bucket_of-b.false) c.if-v-layout-2.true)

pub returns : goal.returns
returns c =
    let a = c.args in
    let t = table_of a.table in
    let v = c.word_of-v.result in
    let held : t.bucket a.b ≡ v = sym c.word_of-v.ensures in
    let may : may_be (value_of t v) t.bucket_count a.b ≡ true = sym (c.may_be.ensures ∙ rw c.word_of-value.ensures) ∙ c.if-not-may_be.false in
    let own : c.bucket_of.result ≡ gnu_bucket_of t v = c.bucket_of.ensures.0 ∙ bucket_is a.table v in
    ap (λ bucket. eqb bucket a.b) (c.bucket_of-2.ensures.0 ∙ bucket_is a.table (v - 1))
    ∙ sym (stray_before t a.b v held c.if-v-eq0.false c.if-v-layout.false c.if-table-v.false may (sym own ∙ c.if-bucket_of-b.false) c.if-v-layout-2.false)
