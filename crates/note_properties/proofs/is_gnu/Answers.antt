-- `note_properties::is_gnu` meets its contract: the trimmed name is held against `GNU`. Assumes nothing.
use Rattle.std.proofs.Common.{◌∙◌, ap}
use Rattle.endian.specs.First.{same}
use Rattle.note_name.specs.LentPart.{Part}
use Rattle.note_properties.specs.Properties.{gnu, is_gnu}
use Rattle.note_properties.proofs.GnuName.{pointwise_same}
use Rattle.note_properties.proofs.is_gnu.Goals as goal

pub returns : goal.returns
unfolding is_gnu
returns c =
    c.eq.ensures
    ∙ pointwise_same c.trimmed.result.now c.as_slice.result.now
    ∙ ap (same c.trimmed.result.now) c.as_slice.ensures
    ∙ ap (λ (p : Part). same p.bytes gnu) c.trimmed.ensures
