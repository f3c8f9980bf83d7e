-- The size limit, and the refusals by their numbers, in the order of document 01's table, "Refusals".
--     limit, any_long    the most bytes that a lent part may have, and whether one of several has more
--     refusal            the refusal of a number
--     unless_refused     the refusal, where there is one, or else the answer
--     too_long, …        each of them, under its name
-- Assumes nothing.
use Rattle.std.specs.Prelude.{ℕ, Bool, true, false, cond, List, [], ◌∷◌, ltb, length}
use Rattle.std.proofs.Math.Option.{Option, some, none}
use Rattle.endian.specs.declared.refusals.Refusal.{Refusal}

abbrev pub limit : ℕ
limit = 1073741824

abbrev pub any_long : List (List ℕ) → Bool
any_long [] = false
any_long (part ∷ parts) = cond (ltb limit (length part)) true (any_long parts)

abbrev pub refusal : ℕ → Refusal
refusal n = record { 0 = n }

abbrev pub unless_refused : {A : Type 0} → (Refusal → A) → Option Refusal → A → A
unless_refused refused none answer = answer
unless_refused refused (some r) answer = refused r

-- a part is too long
abbrev pub too_long : Refusal
too_long = refusal 1

-- a note's header is short
abbrev pub note_short : Refusal
note_short = refusal 2

-- a note's name
abbrev pub bad_note_name : Refusal
bad_note_name = refusal 3

-- a note's descriptor
abbrev pub bad_note_descriptor : Refusal
bad_note_descriptor = refusal 4

-- a note's alignment
abbrev pub bad_note_alignment : Refusal
bad_note_alignment = refusal 5

-- a property
abbrev pub bad_property : Refusal
bad_property = refusal 6

-- a property's number under 4 bytes
abbrev pub short_property_number : Refusal
short_property_number = refusal 7

-- Verdef short
abbrev pub verdef_short : Refusal
verdef_short = refusal 8

-- Verdef aux
abbrev pub bad_verdef_aux : Refusal
bad_verdef_aux = refusal 9

-- Verdef next
abbrev pub bad_verdef_next : Refusal
bad_verdef_next = refusal 10

-- Verdaux short
abbrev pub verdaux_short : Refusal
verdaux_short = refusal 11

-- Verdaux next
abbrev pub bad_verdaux_next : Refusal
bad_verdaux_next = refusal 12

-- Verneed short
abbrev pub verneed_short : Refusal
verneed_short = refusal 13

-- Verneed aux
abbrev pub bad_verneed_aux : Refusal
bad_verneed_aux = refusal 14

-- Verneed next
abbrev pub bad_verneed_next : Refusal
bad_verneed_next = refusal 15

-- Vernaux short
abbrev pub vernaux_short : Refusal
vernaux_short = refusal 16

-- Vernaux next
abbrev pub bad_vernaux_next : Refusal
bad_vernaux_next = refusal 17

-- Verdaux name
abbrev pub bad_verdaux_name : Refusal
bad_verdaux_name = refusal 18

-- Verneed file
abbrev pub bad_verneed_file : Refusal
bad_verneed_file = refusal 19

-- Vernaux name
abbrev pub bad_vernaux_name : Refusal
bad_vernaux_name = refusal 20

-- a version index is invalid
abbrev pub bad_version_index : Refusal
bad_version_index = refusal 21

-- the store is too small
abbrev pub store_too_small : Refusal
store_too_small = refusal 22

-- SysV header
abbrev pub bad_sysv_header : Refusal
bad_sysv_header = refusal 23

-- SysV buckets
abbrev pub bad_sysv_buckets : Refusal
bad_sysv_buckets = refusal 24

-- SysV chains
abbrev pub bad_sysv_chains : Refusal
bad_sysv_chains = refusal 25

-- GNU header
abbrev pub bad_gnu_header : Refusal
bad_gnu_header = refusal 26

-- GNU bloom
abbrev pub bad_gnu_bloom : Refusal
bad_gnu_bloom = refusal 27

-- GNU buckets
abbrev pub bad_gnu_buckets : Refusal
bad_gnu_buckets = refusal 28

-- no whole segment record at that number
abbrev pub no_segment : Refusal
no_segment = refusal 29

-- shift above 31
abbrev pub bad_bloom_shift : Refusal
bad_bloom_shift = refusal 30

-- segment data
abbrev pub bad_segment_data : Refusal
bad_segment_data = refusal 31

-- dynamic
abbrev pub bad_dynamic_place : Refusal
bad_dynamic_place = refusal 32

-- interpreter place
abbrev pub bad_interpreter_place : Refusal
bad_interpreter_place = refusal 33

-- interpreter without zero
abbrev pub endless_interpreter : Refusal
endless_interpreter = refusal 34

-- note place
abbrev pub bad_note_place : Refusal
bad_note_place = refusal 35

-- string
abbrev pub no_string : Refusal
no_string = refusal 36

-- symbol number
abbrev pub no_symbol : Refusal
no_symbol = refusal 37

-- a class or a byte order that C passes and that is none; not document 01's
abbrev pub unknown_kind : Refusal
unknown_kind = refusal 39
