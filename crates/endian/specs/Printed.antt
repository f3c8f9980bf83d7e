-- Need not be believed: what a refusal prints. Inner contracts cite it. Assumes nothing.
--     refusal_text    it names the refusal's number, in decimal
use Rattle.std.specs.Prelude.{ℕ, List, ◌++◌, codes}
use Rattle.std.specs.Fmt.{decimal}
use Rattle.endian.specs.declared.refusals.Refusal.{Refusal}

abbrev pub refusal_text : Refusal → List ℕ
refusal_text r = codes "refused, number " ++ decimal r.0
