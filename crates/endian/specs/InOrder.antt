-- Need not be believed: all the refusals, in the order of their numbers. An inner contract cites it, which ties each
-- constant of the code to its name. Assumes nothing.
use Rattle.std.specs.Prelude.{List, [], ◌∷◌}
use Rattle.endian.specs.declared.refusals.Refusal.{Refusal}
use Rattle.endian.specs.Refusals.{too_long, note_short, bad_note_name, bad_note_descriptor, bad_note_alignment, bad_property, short_property_number, verdef_short, bad_verdef_aux, bad_verdef_next, verdaux_short, bad_verdaux_next, verneed_short, bad_verneed_aux, bad_verneed_next, vernaux_short, bad_vernaux_next, bad_verdaux_name, bad_verneed_file, bad_vernaux_name, bad_version_index, store_too_small, bad_sysv_header, bad_sysv_buckets, bad_sysv_chains, bad_gnu_header, bad_gnu_bloom, bad_gnu_buckets, no_segment, bad_bloom_shift, bad_segment_data, bad_dynamic_place, bad_interpreter_place, endless_interpreter, bad_note_place, no_string, no_symbol, unknown_kind}

abbrev pub refusals : List Refusal
refusals =
    too_long ∷
    note_short ∷
    bad_note_name ∷
    bad_note_descriptor ∷
    bad_note_alignment ∷
    bad_property ∷
    short_property_number ∷
    verdef_short ∷
    bad_verdef_aux ∷
    bad_verdef_next ∷
    verdaux_short ∷
    bad_verdaux_next ∷
    verneed_short ∷
    bad_verneed_aux ∷
    bad_verneed_next ∷
    vernaux_short ∷
    bad_vernaux_next ∷
    bad_verdaux_name ∷
    bad_verneed_file ∷
    bad_vernaux_name ∷
    bad_version_index ∷
    store_too_small ∷
    bad_sysv_header ∷
    bad_sysv_buckets ∷
    bad_sysv_chains ∷
    bad_gnu_header ∷
    bad_gnu_bloom ∷
    bad_gnu_buckets ∷
    no_segment ∷
    bad_bloom_shift ∷
    bad_segment_data ∷
    bad_dynamic_place ∷
    bad_interpreter_place ∷
    endless_interpreter ∷
    bad_note_place ∷
    no_string ∷
    no_symbol ∷
    unknown_kind ∷
    []
