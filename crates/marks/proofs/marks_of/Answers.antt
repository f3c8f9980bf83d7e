-- `marks::marks_of` meets its contract: both counts, then the marks. Assumes nothing.
use Rattle.std.proofs.Common.{◌≡◌, ℕ, [], ◌∷◌, Err, ◌∙◌, rules}
use Rattle.endian.specs.Refusals.{any_long, too_long}
use Rattle.symbol.specs.Table.{symbols_in}
use Rattle.definitions.specs.declared.Which.{Which}
use Rattle.definitions.specs.declared.Which.TheVariants.{All, Unversioned}
use Rattle.definitions.specs.Definitions.{defines_in, count_in}
use Rattle.marks.specs.Marks.{marks_for, marks_of}
use Rattle.marks.proofs.Told.{long_told, short_told}
use Rattle.marks.proofs.marks_of.Goals as goal

pub returns-in_err-definitions : goal.returns-in_err-definitions
unfolding marks_of
returns-in_err-definitions c =
    let handed : c.from_residual.result ≡ Err c.in_err-definitions.field-0.0 = search rules in
    handed ∙ long_told _ _ _ _ _ c.in_err-definitions.ensures

pub returns : goal.returns
unfolding marks_of
returns c =
    let a = c.args in
    let s = a.searched in
    let count : Which → ℕ =
    λ which. count_in (defines_in s.class s.order s.symbols.now s.strings.now s.versyms.now s.name.now which) (symbols_in s.class s.symbols.now) in
    c.marks_for.ensures
    ∙ short_told (any_long (s.strings.now ∷ s.versyms.now ∷ s.name.now ∷ s.symbols.now ∷ [])) (count All) (count Unversioned) _ _ too_long
    (λ m n. marks_for s.class s.order s.symbols.now a.need m n a.answer)
    c.in_ok-definitions.ensures c.in_ok-unversioned.ensures
