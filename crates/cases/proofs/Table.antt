-- The cases that document 01 marks [P] (its section "Cases"), in its order: what the rules give, beside what the document says.
-- Before them the size limit of document 02's item 7.
--     limit_is          a part may have 1,073,741,824 bytes
--     gnu_hashes        GNU hash: empty 5381; `a` 177670; `b` 177671; `ab` 5863208
--     sysv_hashes       SysV: empty 0; `a` 97; `ab` 1650
--     gnu_accepted      ELF32, symbols null and `a`, ..: accepted
--     gnu_lookups       `a` found at 1, 1 probe; `b` none, 0 probes; bloom all ones: `b` none, 1 probe
--     notes_of_4        Note bytes, align 4: 0 is the end; 11 gives 2; 12 zeros one note; 13 .. gives 4; 17 .. is a note
--     notes_of_8        Align 8: 12 zeros give 4, 16 one note
--     properties        Property size 4: ELF64 with 12 bytes gives 6, 16 is read; ELF32 reads 12
--     hidden_version    Versym 0x8002, entry 2 valid: without need no, with equal need yes
--     no_versym         No versym: without need yes, with need no
-- Assumes nothing.
use Rattle.std.proofs.Common.{ℕ, ◌/◌, ◌%◌, ◌≡◌, refl, Bool, true, false, List, [], ◌∷◌, ◌++◌, map, replicate, Result, Ok, Err, Some}
use Rattle.endian.specs.declared.kinds.Class.TheVariants.{Elf32, Elf64}
use Rattle.endian.specs.declared.kinds.Order.{Order}
use Rattle.endian.specs.declared.kinds.Order.TheVariants.{Little, Big}
use Rattle.endian.specs.declared.refusals.Refusal.{Refusal}
use Rattle.endian.specs.First.{first, readable}
use Rattle.endian.specs.Refusals.{limit, note_short, bad_note_descriptor, bad_property}
use Rattle.endian.specs.Word.{word_at}
use Rattle.gnu.specs.Find.{gnu_find}
use Rattle.gnu.specs.Lookup.{start_of, gnu_lookup}
use Rattle.gnu_table.specs.Table.{bloom_first, bloom_second, bloom_filter}
use Rattle.gnu_rules.specs.Rules.{gnu_check, power_of_two, gnu_hash_at, is_last, findings, longest, verdict}
use Rattle.lookup.specs.declared.Lookup.{Lookup}
use Rattle.lookup.specs.Wanted.{name_of, wanted_in, found, missing}
use Rattle.name_hash.specs.Hash.{gnu_hash, sysv_hash}
use Rattle.property_reader.specs.declared.Property.{Property}
use Rattle.note.specs.declared.reader.Note.{Note}
use Rattle.note.specs.Notes.{note_step}
use Rattle.property_reader.specs.Reader.{property_step, property_reader_at}
use Rattle.property_reader.specs.After.{property_reader_after}
use Rattle.note_properties.specs.Properties.{property_start}
use Rattle.note.specs.Walk.{none, onto, ended, stopped, notes_within, notes_from, section_notes}
use Rattle.symbol.specs.Table.{symbol_at, symbol_index}
use Rattle.version_match.specs.declared.Need.{Need}
use Rattle.version.specs.Table.{stored_at, valid, entry_at, versym_at}
use Rattle.version_match.specs.Match.{matching}

limit_is : limit ≡ 1073741824
limit_is = refl

-- the names `a`, `b` and `ab`
abbrev a : List ℕ
a = 97 ∷ []

abbrev b : List ℕ
b = 98 ∷ []

abbrev ab : List ℕ
ab = 97 ∷ 98 ∷ []

-- GNU hash: empty 5381; `a` 177670; `b` 177671; `ab` 5863208
gnu_hashes : map gnu_hash ([] ∷ a ∷ b ∷ ab ∷ []) ≡ 5381 ∷ 177670 ∷ 177671 ∷ 5863208 ∷ []
unfolding gnu_hash
gnu_hashes = refl

-- SysV: empty 0; `a` 97; `ab` 1650
sysv_hashes : map sysv_hash ([] ∷ a ∷ ab ∷ []) ≡ 0 ∷ 97 ∷ 1650 ∷ []
unfolding sysv_hash
sysv_hashes = refl

zeros : ℕ → List ℕ
zeros n = replicate n 0

-- a number in 4 bytes
four : Order → ℕ → List ℕ
four Little n = n % 256 ∷ n / 256 % 256 ∷ n / 65536 % 256 ∷ n / 16777216 % 256 ∷ []
four Big n = n / 16777216 % 256 ∷ n / 65536 % 256 ∷ n / 256 % 256 ∷ n % 256 ∷ []

fours : Order → List ℕ → List ℕ
fours order [] = []
fours order (n ∷ ns) = four order n ++ fours order ns

-- ELF32, symbols null and `a`, base 1, one bucket holding 1, shift 5, value 177671: the table of a bloom word, and its symbols and their strings
gnu_table_lem : Order → (bloom : ℕ) → List ℕ
gnu_table_lem order bloom = fours order (1 ∷ 1 ∷ 1 ∷ 5 ∷ bloom ∷ 1 ∷ 177671 ∷ [])

gnu_symbols : Order → List ℕ
gnu_symbols order = zeros 16 ++ (four order 1 ++ zeros 12)

gnu_strings : List ℕ
gnu_strings = 0 ∷ (a ++ (0 ∷ []))

-- bloom 65600: accepted
gnu_accepted : (order : Order) → gnu_check Elf32 order (gnu_table_lem order 65600) (gnu_symbols order) gnu_strings ≡ Ok 1
unfolding zeros four fours gnu_table_lem gnu_symbols gnu_strings gnu_check gnu_hash power_of_two gnu_hash_at bloom_first bloom_second is_last findings longest verdict name_of symbol_at readable first word_at
gnu_accepted Little = refl
gnu_accepted Big = refl

-- a lookup of a name by its hash, without versions
gnu_find_lem : Order → (bloom : ℕ) → List ℕ → Result Lookup Refusal
gnu_find_lem order bloom name =
    gnu_find Elf32 order
    (record {
      table = gnu_table_lem order bloom;
      symbols = gnu_symbols order;
      strings = gnu_strings;
      versyms = [];
      store = [];
      version_strings = [];
    })
    (record { name = name; need = Need.Any; need_name = [] }) (gnu_hash name)

-- bloom 65600: `a` found at 1, 1 probe; `b` none, 0 probes; bloom all ones: `b` none, 1 probe
gnu_lookups : (order : Order)
    → (gnu_find_lem order 65600 a ≡ Ok (found (symbol_index 1) 1))
    × (gnu_find_lem order 65600 b ≡ Ok (missing 0))
    × (gnu_find_lem order 0xffff_ffff b ≡ Ok (missing 1))
unfolding zeros four fours gnu_table_lem gnu_symbols gnu_strings gnu_find_lem gnu_find gnu_hash gnu_lookup bloom_filter bloom_first bloom_second start_of wanted_in name_of symbol_at readable first word_at stored_at valid entry_at versym_at matching
gnu_lookups Little = (refl, refl, refl)
gnu_lookups Big = (refl, refl, refl)

-- a note of type 0, by the size of its name, and the start and the size of its descriptor
note : (namesz descriptor descsz : ℕ) → Note
note namesz descriptor descsz = record { kind = 0; name = 12; namesz = namesz; descriptor = descriptor; descsz = descsz }

-- Note bytes, align 4: 0 is the end; 11 gives 2; 12 zeros one note; 13 with namesz 1, descsz 0 gives 4; 17 with namesz 4, descsz 1 is a note
notes_of_4 : (order : Order)
    → (section_notes order 4 [] ≡ none ended)
    × (section_notes order 4 (zeros 11) ≡ none (stopped note_short))
    × (section_notes order 4 (zeros 12) ≡ onto (note 0 12 0) (none ended))
    × (section_notes order 4 (four order 1 ++ zeros 9) ≡ none (stopped bad_note_descriptor))
    × (section_notes order 4 (four order 4 ++ (four order 1 ++ zeros 9)) ≡ onto (note 4 16 1) (none ended))
unfolding zeros four note word_at note_step notes_within notes_from
notes_of_4 Little = (refl, refl, refl, refl, refl)
notes_of_4 Big = (refl, refl, refl, refl, refl)

-- align 8: 12 zeros give 4, 16 one note
notes_of_8 : (order : Order)
    → (section_notes order 8 (zeros 12) ≡ none (stopped bad_note_descriptor))
    × (section_notes order 8 (zeros 16) ≡ onto (note 0 16 0) (none ended))
unfolding zeros note word_at note_step notes_within notes_from
notes_of_8 Little = (refl, refl)
notes_of_8 Big = (refl, refl)

-- a property of type 0 and size 4, with so many bytes after its size
property : Property
property = record { kind = 0; start = 8; size = 4 }

bytes : Order → (after : ℕ) → List ℕ
bytes order after = four order 0 ++ (four order 4 ++ zeros after)

-- Property size 4: ELF64 with 12 bytes gives 6, 16 is read; ELF32 reads 12
properties : (order : Order)
    → (property_step (property_start Elf64 order) (bytes order 4) ≡ Err bad_property)
    × (property_reader_after (property_start Elf64 order) (bytes order 4) ≡ property_reader_at (property_start Elf64 order) 12)
    × (property_step (property_start Elf64 order) (bytes order 8) ≡ Ok (Some property))
    × (property_reader_after (property_start Elf64 order) (bytes order 8) ≡ property_reader_at (property_start Elf64 order) 16)
    × (property_step (property_start Elf32 order) (bytes order 4) ≡ Ok (Some property))
    × (property_reader_after (property_start Elf32 order) (bytes order 4) ≡ property_reader_at (property_start Elf32 order) 12)
unfolding zeros four bytes property word_at property_step
properties Little = (refl, refl, refl, refl, refl, refl)
properties Big = (refl, refl, refl, refl, refl, refl)

-- a version table whose entry 2 is a definition of hash 97 and name `a`, and the versyms of one symbol: 0x8002
abbrev store : List ℕ
store = replicate 12 0 ++ (1 ∷ 97 ∷ 0 ∷ 1 ∷ 0 ∷ 0 ∷ [])

abbrev strings : List ℕ
strings = 97 ∷ 0 ∷ []

abbrev versyms : Order → List ℕ
versyms Little = 0x02 ∷ 0x80 ∷ []
versyms Big = 0x80 ∷ 0x02 ∷ []

-- whether its first symbol matches without need, and with the need of `a`
abbrev matched : Order → List ℕ → List Bool
matched order versyms =
    matching order versyms store strings (record { 0 = 0 }) Need.Any [] ∷
    matching order versyms store strings (record { 0 = 0 }) (Need.Hash 97) a ∷
    []

-- versym 0x8002, entry 2 valid: without need no, with equal need yes
hidden_version : (order : Order) → matched order (versyms order) ≡ false ∷ true ∷ []
unfolding word_at stored_at valid entry_at versym_at matching
hidden_version Little = refl
hidden_version Big = refl

-- no versym: without need yes, with need no
no_versym : (order : Order) → matched order [] ≡ true ∷ false ∷ []
unfolding word_at stored_at valid entry_at versym_at matching
no_versym order = refl
