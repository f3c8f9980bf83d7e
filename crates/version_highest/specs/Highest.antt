-- The first pass (01, module 5): the highest index over definitions (whole 16 bits) and needs (low 15 bits).
--     def_indices, aux_indices, need_indices    the indices that a definition, a needed version, a need name
--     indices                                   those of the definitions, then those of the needs
--     highest_index                             the highest of them, or 0 where there is none
-- Assumes nothing.
use Rattle.std.specs.Prelude.{ℕ, max, List, [], ◌∷◌, cond}
use Rattle.endian.specs.declared.kinds.Order.{Order}
use Rattle.version_layout.specs.Indices.{def_index, need_index, is_base}
use Rattle.version_records.specs.Outcome.{Outcome, both, folded}
use Rattle.std.specs.Prelude.{Ok}
use Rattle.version_records.specs.Walk.{collect}
use Rattle.version_records.specs.Records.{verdefs, verneeds, vernauxs, need_count}
use Rattle.version.specs.declared.index.VersionIndex.{VersionIndex}
use Rattle.version_layout.specs.declared.steps.Record.{Record}
use Rattle.version_layout.specs.declared.steps.Aux.{Aux}

-- definitions flagged base are passed over
unfoldable pub def_indices : Order → List ℕ → Record → Outcome (List VersionIndex)
def_indices order s r = Ok (cond (is_base order s r) [] (def_index order s r.at ∷ []))

unfoldable pub aux_indices : Order → List ℕ → Aux → Outcome (List VersionIndex)
aux_indices order s a = Ok (need_index order s a.at ∷ [])

abbrev pub need_indices : Order → List ℕ → Record → Outcome (List VersionIndex)
need_indices order s r = collect (aux_indices order s) (vernauxs order s (need_count order s r) r.aux)

abbrev pub indices : Order → (verdef verneed : List ℕ) → Outcome (List VersionIndex)
indices order verdef verneed =
    both (collect (def_indices order verdef) (verdefs order verdef 0))
    (collect (need_indices order verneed) (verneeds order verneed 0))

unfoldable pub higher_of : VersionIndex → VersionIndex → VersionIndex
higher_of high index = record { 0 = max high.0 index.0 }

abbrev pub highest_index : Order → (verdef verneed : List ℕ) → Outcome VersionIndex
highest_index order verdef verneed = folded higher_of (record { 0 = 0 }) (indices order verdef verneed)
