-- The syllables of a text, numbered.
use Rattle.std.specs.Prelude.{ℕ, zero, suc, ◌+◌, ◌-◌, ◌*◌, ◌%◌, ◌==◌, nat_lt, if◌then◌else◌, List, length, map, drop, set, slice_index_or}
use Rattle.shape_items.specs.Buffer.{Buffer}
use Rattle.shape_items.specs.Items.{Item, new_item}
use Rattle.syllables.specs.declared.scanner.Syllable.{Syllable}
use Rattle.syllabic.specs.Walking.{category_of}
use Rattle.syllabic.specs.declared.scanning.Numbering.{Numbering}

-- what finds the first syllable of a text, by its categories
abbrev pub Cut : Type 0
Cut = List ℕ → Syllable

abbrev pub categories_of : List Item → List ℕ
categories_of items = map category_of items

-- 1 to 15 round and round
abbrev pub next_serial : ℕ → ℕ
next_serial serial = if nat_lt serial 15 then serial + 1 else 1

abbrev pub syllable_byte : ℕ → ℕ → ℕ
syllable_byte serial kind = serial % 16 * 16 + kind % 16

abbrev pub begun : ℕ → Syllable → Numbering
begun serial syllable = record { byte = syllable_byte serial syllable.kind; left = syllable.count; serial = next_serial serial }

-- where a walk stands at the first item of a list
abbrev pub entered : Cut → Numbering → List Item → Numbering
entered cut numbering items = if numbering.left == 0 then begun numbering.serial (cut (categories_of items)) else numbering

abbrev pub passed : Numbering → Numbering
passed numbering = record { byte = numbering.byte; left = numbering.left - 1; serial = numbering.serial }

abbrev pub put_in_syllable : ℕ → ℕ → Buffer → Buffer
put_in_syllable byte i b =
    let item = slice_index_or b.items i (new_item 0 0) in
    record b { items = set b.items i (record item { properties = record item.properties { syllable = byte } }) }

abbrev pub numbered_at : Cut → Numbering → ℕ → Buffer → Buffer
numbered_at cut numbering i b = put_in_syllable (entered cut numbering (drop i b.items)).byte i b

abbrev pub number_at : Cut → Numbering → ℕ → Buffer → Numbering
number_at cut numbering i b = passed (entered cut numbering (drop i b.items))

-- the first places numbered, and where the walk stands then
abbrev pub numbered_next : Cut → ℕ → Buffer × Numbering → Buffer × Numbering
numbered_next cut i (b, numbering) = (numbered_at cut numbering i b, number_at cut numbering i b)

abbrev pub first_numbering : ℕ → Numbering
first_numbering skipped = record { byte = 0; left = skipped; serial = 1 }

abbrev pub numbered_to : Cut → (skipped count : ℕ) → Buffer → Buffer × Numbering
numbered_to cut skipped zero b = (b, first_numbering skipped)
numbered_to cut skipped (suc i) b = numbered_next cut i (numbered_to cut skipped i b)

-- each item in its syllable, but the first `skipped` ones in none
abbrev pub syllables_numbered : Cut → ℕ → Buffer → Buffer
syllables_numbered cut skipped b = (numbered_to cut skipped (length b.items) b).0
