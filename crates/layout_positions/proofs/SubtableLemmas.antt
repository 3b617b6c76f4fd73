-- a lookup preserves the number of items, and what subtables of marks on bases and ligatures come to
use Prim.Native.Nat.{zero}
use Rattle.std.proofs.Common.{◌≡◌, ℕ, suc, ◌+◌, ◌<◌, ◌∙◌, ◌&&◌, ◌||◌, Bool, true, false, Option, Some, None, is_some, length, nat_eq, refl, sym, ap, subst, arith, ◌-◌, ◌*◌, if◌then◌else◌}
use Rattle.std.proofs.lemmas.Bool.Decides.{nat_tests}
use Rattle.std.specs.Option.{option_map_or}
use Rattle.shape_font.specs.Bytes.{u16_of}
use Rattle.shape_items.specs.Buffer.{Buffer}
use Rattle.layout_tables.specs.declared.lookups.LookupSubtable.{LookupSubtable}
use Rattle.layout_matching.specs.Loops.{times}
use Rattle.layout_matching.specs.declared.lookup.Lookup.{Lookup}
use Rattle.layout_matching.proofs.LoopLemmas.{times_step, times_after}
use Rattle.layout_positions.specs.Cursive.{cursive_applied}
use Rattle.layout_positions.specs.Lookups.{Applied, unapplied}
use Rattle.layout_positions.specs.Marks.{base_seen, mark_number, mark_base_at, mark_base_applied, mark_ligature_at, mark_ligature_applied, mark_mark_at, mark_mark_applied}
use Rattle.layout_positions.specs.Pairs.{single_applied, pair_applied}
use Rattle.layout_positions.specs.Subtables.{if_first_format, kind_applied, LINK_WORK, links_of, links_charged, sought_from, sought, unplaced, kind_placed, subtable_placed, Trial, trial_step, next_tried, placed_by}
use Rattle.layout_positions.specs.declared.bases.BaseSeen.{BaseSeen}
use Rattle.layout_positions.specs.declared.subtables.Sought.{Sought}
use Rattle.layout_positions.proofs.CountLemmas.{length_broken, length_concat_marked, length_put}
use Rattle.layout_positions.proofs.StepLemmas.{step-trial}

pub length_tried : (l : Lookup) (i : ℕ) (s : Trial) → length (trial_step l i s).buffer.items ≡ length s.buffer.items
length_tried = step-trial (λ b c. length c.items ≡ length b.items) (λ b. refl) (λ a b c first later. later ∙ first)
    length_broken length_concat_marked length_put

-- ---- the first subtable that applies ends the trial

step_stays : (l : Lookup) (i : ℕ) (s : Trial) → is_some s.next ≡ true → placed_by (trial_step l i s) ≡ placed_by s
step_stays l i s is = ap (λ b. placed_by (if b then record s { subtable = s.subtable + 1 } else next_tried l i s)) is

rest_stays : (l : Lookup) (i n : ℕ) (s : Trial) → is_some s.next ≡ true → placed_by (times (trial_step l i) n s) ≡ placed_by s
rest_stays l i zero s is = refl
rest_stays l i (suc n) s is =
    let before = rest_stays l i n s is in
    step_stays l i (times (trial_step l i) n s) (ap (λ p. is_some p.next) before ∙ is) ∙ before

pub tried_until : (l : Lookup) (i n k : ℕ) (first here there : Trial) → k < n → here ≡ times (trial_step l i) k first
    → there ≡ trial_step l i here → is_some there.next ≡ true → placed_by there ≡ placed_by (times (trial_step l i) n first)
tried_until l i n k first here there below made next is =
    let f = trial_step l i in
    let rest = n - (k + 1) in
    let whole : rest + (k + 1) ≡ n = omega (arith, below) in
    sym (rest_stays l i rest there is)
    ∙ ap (λ (s : Trial). placed_by (times f rest s)) (times_step f k first here there made next)
    ∙ ap placed_by (sym (times_after f rest (k + 1) first))
    ∙ ap (λ m. placed_by (times f m first)) whole

-- ---- marks on bases and on ligatures

-- the number of a mark, in a subtable of format 1
abbrev pub listed : Lookup → LookupSubtable → ℕ → Buffer → Option ℕ
listed l subtable i b = if nat_eq (u16_of l.table.now subtable.start) 1 then mark_number l subtable.start i b else None

abbrev IsOnBase : LookupSubtable → Type 0
IsOnBase subtable = (nat_eq subtable.kind 4 || nat_eq subtable.kind 5) ≡ true

-- what the subtable makes of mark number `number`
abbrev attached_as : Lookup → LookupSubtable → Option ℕ → ℕ → Buffer → ℕ → Applied
attached_as l subtable base i b number = if nat_eq subtable.kind 4 then mark_base_at l subtable.start base i b number
    else mark_ligature_at l subtable.start base i b number

by-kind : (k : ℕ) (x1 x2 x3 x4 x5 x6 none m4 m5 : Applied) → (nat_eq k 4 || nat_eq k 5) ≡ true → x4 ≡ m4 → x5 ≡ m5
    → (if nat_eq k 1 then x1 else (if nat_eq k 2 then x2 else (if nat_eq k 3 then x3 else (if nat_eq k 4 then x4
    else (if nat_eq k 5 then x5 else (if nat_eq k 6 then x6 else none))))))
    ≡ (if nat_eq k 4 then m4 else m5)
by-kind k x1 x2 x3 x4 x5 x6 none m4 m5 on four five = by_four (nat_eq k 4) refl
  where
    by_four : (t : Bool) → nat_eq k 4 ≡ t
        → (if nat_eq k 1 then x1 else (if nat_eq k 2 then x2 else (if nat_eq k 3 then x3 else (if nat_eq k 4 then x4
        else (if nat_eq k 5 then x5 else (if nat_eq k 6 then x6 else none))))))
        ≡ (if nat_eq k 4 then m4 else m5)
    by_four true is =
        let same : 4 ≡ k = grind (arith, nat_tests, is) in
        subst (λ n. (if nat_eq n 1 then x1 else (if nat_eq n 2 then x2 else (if nat_eq n 3 then x3 else (if nat_eq n 4 then x4
        else (if nat_eq n 5 then x5 else (if nat_eq n 6 then x6 else none))))))
        ≡ (if nat_eq n 4 then m4 else m5)) same four
    by_four false is =
        let same : 5 ≡ k = grind (arith, nat_tests, is, on) in
        subst (λ n. (if nat_eq n 1 then x1 else (if nat_eq n 2 then x2 else (if nat_eq n 3 then x3 else (if nat_eq n 4 then x4
        else (if nat_eq n 5 then x5 else (if nat_eq n 6 then x6 else none))))))
        ≡ (if nat_eq n 4 then m4 else m5)) same five

listed-format : (t : Bool) (o : Option ℕ) (number : ℕ) → (if t then o else None) ≡ Some number → (t && is_some o) ≡ true
listed-format true None number is = cc
listed-format true (Some n) number is = refl
listed-format false o number is = cc

unlisted-format : (t : Bool) (o : Option ℕ) → (if t then o else None) ≡ None → (t && is_some o) ≡ false
unlisted-format true None is = refl
unlisted-format true (Some n) is = cc
unlisted-format false o is = refl

listed-made : (t : Bool) (o : Option ℕ) (number : ℕ) (f : ℕ → Applied) (none : Applied) → (if t then o else None) ≡ Some number
    → (if t then option_map_or f o none else none) ≡ f number
listed-made true o number f none is = ap (λ x. option_map_or f x none) is
listed-made false o number f none is = cc

unlisted-made : (t : Bool) (o : Option ℕ) (f : ℕ → Applied) (none : Applied) → (if t then o else None) ≡ None
    → (if t then option_map_or f o none else none) ≡ none
unlisted-made true o f none is = ap (λ x. option_map_or f x none) is
unlisted-made false o f none is = refl

attached-kind : (l : Lookup) (subtable : LookupSubtable) (base : Option ℕ) (i : ℕ) (b : Buffer) (number : ℕ) → IsOnBase subtable
    → listed l subtable i b ≡ Some number → kind_applied l subtable base i b ≡ attached_as l subtable base i b number
attached-kind l subtable base i b number on is =
    let start = subtable.start in
    let format = nat_eq (u16_of l.table.now start) 1 in
    let o = mark_number l start i b in
    by-kind subtable.kind (single_applied l start i b) (pair_applied l start i b) (if_first_format l start b (cursive_applied l start i b))
    (if_first_format l start b (mark_base_applied l start base i b)) (if_first_format l start b (mark_ligature_applied l start base i b))
    (if_first_format l start b (mark_mark_applied l start i b)) (unapplied b)
    (mark_base_at l start base i b number) (mark_ligature_at l start base i b number) on
    (listed-made format o number (mark_base_at l start base i b) (unapplied b) is)
    (listed-made format o number (mark_ligature_at l start base i b) (unapplied b) is)

unattached-kind : (l : Lookup) (subtable : LookupSubtable) (base : Option ℕ) (i : ℕ) (b : Buffer) → IsOnBase subtable
    → listed l subtable i b ≡ None → kind_applied l subtable base i b ≡ unapplied b
unattached-kind l subtable base i b on is =
    let start = subtable.start in
    let format = nat_eq (u16_of l.table.now start) 1 in
    let o = mark_number l start i b in
    by-kind subtable.kind (single_applied l start i b) (pair_applied l start i b) (if_first_format l start b (cursive_applied l start i b))
    (if_first_format l start b (mark_base_applied l start base i b)) (if_first_format l start b (mark_ligature_applied l start base i b))
    (if_first_format l start b (mark_mark_applied l start i b)) (unapplied b) (unapplied b) (unapplied b) on
    (unlisted-made format o (mark_base_at l start base i b) (unapplied b) is)
    (unlisted-made format o (mark_ligature_at l start base i b) (unapplied b) is)
    ∙ same-either (nat_eq subtable.kind 4)
  where
    same-either : (t : Bool) → (if t then unapplied b else unapplied b) ≡ unapplied b
    same-either true = refl
    same-either false = refl

sought-if : (x y : Bool) (z : Bool) (found none : Sought) → x ≡ true → (y && z) ≡ true → (if x && y && z then found else none) ≡ found
sought-if true y z found none on is = ap (λ t. if t then found else none) is
sought-if false y z found none on is = cc

sought-unless : (x y : Bool) (z : Bool) (found none : Sought) → x ≡ true → (y && z) ≡ false → (if x && y && z then found else none) ≡ none
sought-unless true y z found none on is = ap (λ t. if t then found else none) is
sought-unless false y z found none on is = cc

sought-mark : (l : Lookup) (subtable : LookupSubtable) (i : ℕ) (b : Buffer) (seen : BaseSeen) (left number : ℕ) → IsOnBase subtable
    → listed l subtable i b ≡ Some number
    → sought l subtable i b seen left ≡ sought_from l subtable b.items i seen left (base_seen l subtable b.items i seen)
sought-mark l subtable i b seen left number on is =
    let format = nat_eq (u16_of l.table.now subtable.start) 1 in
    let o = mark_number l subtable.start i b in
    sought-if (nat_eq subtable.kind 4 || nat_eq subtable.kind 5) format (is_some o) _ _ on (listed-format format o number is)

sought-neither : (x y z : Bool) (found none : Sought) → x ≡ false → (if x && y && z then found else none) ≡ none
sought-neither true y z found none is = cc
sought-neither false y z found none is = refl

-- a subtable of values seeks nothing, and costs nothing
pub kind_alone : (l : Lookup) (subtable : LookupSubtable) (i : ℕ) (b : Buffer) (seen : BaseSeen) (left : ℕ) → nat_eq subtable.kind 3 ≡ false
    → (nat_eq subtable.kind 4 || nat_eq subtable.kind 5) ≡ false
    → kind_placed l subtable i b seen left ≡ subtable_placed l subtable i b (sought l subtable i b seen left)
kind_alone l subtable i b seen left third neither =
    let none : sought l subtable i b seen left ≡ record { seen = seen; left = Some left } =
    sought-neither (nat_eq subtable.kind 4 || nat_eq subtable.kind 5) (nat_eq (u16_of l.table.now subtable.start) 1)
    (is_some (mark_number l subtable.start i b)) _ _ neither
    ∙ ap (λ t. record { seen = seen; left = if t then links_charged l subtable i b left else Some left }) third in
    ap (subtable_placed l subtable i b) (sym none)

-- a mark of the subtable, if what is left suffices for the search
pub mark_placed : (l : Lookup) (subtable : LookupSubtable) (i : ℕ) (b c : Buffer) (seen : BaseSeen) (left number after : ℕ) (s : Sought)
    (next : Option ℕ) → IsOnBase subtable → listed l subtable i b ≡ Some number
    → s ≡ sought_from l subtable b.items i seen left (base_seen l subtable b.items i seen) → s.left ≡ Some after
    → c ≡ (attached_as l subtable s.seen.place i b number).buffer → next ≡ (attached_as l subtable s.seen.place i b number).next
    → record { buffer = c; next = next; seen = s.seen; left = after } ≡ subtable_placed l subtable i b (sought l subtable i b seen left)
mark_placed l subtable i b c seen left number after s next on is found enough made goes =
    ap (λ d. record { buffer = d; next = next; seen = s.seen; left = after }) made
    ∙ ap (λ n. record { buffer = (attached_as l subtable s.seen.place i b number).buffer; next = n; seen = s.seen; left = after }) goes
    ∙ ap (λ (x : Applied). record { buffer = x.buffer; next = x.next; seen = s.seen; left = after })
    (sym (attached-kind l subtable s.seen.place i b number on is))
    ∙ ap (λ o. option_map_or (kind_placed l subtable i b s.seen) o (unplaced 0 s.seen b)) (sym enough)
    ∙ ap (subtable_placed l subtable i b) (found ∙ sym (sought-mark l subtable i b seen left number on is))

-- or if it doesn't
pub mark_unpaid : (l : Lookup) (subtable : LookupSubtable) (i : ℕ) (b : Buffer) (seen : BaseSeen) (left number : ℕ) (s : Sought)
    → IsOnBase subtable → listed l subtable i b ≡ Some number
    → s ≡ sought_from l subtable b.items i seen left (base_seen l subtable b.items i seen) → s.left ≡ None
    → record { buffer = b; next = None; seen = s.seen; left = 0 } ≡ subtable_placed l subtable i b (sought l subtable i b seen left)
mark_unpaid l subtable i b seen left number s on is found none =
    ap (λ o. option_map_or (kind_placed l subtable i b s.seen) o (unplaced 0 s.seen b)) (sym none)
    ∙ ap (subtable_placed l subtable i b) (found ∙ sym (sought-mark l subtable i b seen left number on is))

-- a glyph that is no mark of it
pub mark_unplaced : (l : Lookup) (subtable : LookupSubtable) (i : ℕ) (b : Buffer) (seen : BaseSeen) (left : ℕ)
    → IsOnBase subtable → listed l subtable i b ≡ None
    → record { buffer = b; next = None; seen = seen; left = left } ≡ subtable_placed l subtable i b (sought l subtable i b seen left)
mark_unplaced l subtable i b seen left on is =
    let format = nat_eq (u16_of l.table.now subtable.start) 1 in
    let o = mark_number l subtable.start i b in
    let third : nat_eq subtable.kind 3 ≡ false = grind (arith, nat_tests, on) in
    let none : sought l subtable i b seen left ≡ record { seen = seen; left = Some left } =
    sought-unless (nat_eq subtable.kind 4 || nat_eq subtable.kind 5) format (is_some o) _ _ on (unlisted-format format o is)
    ∙ ap (λ t. record { seen = seen; left = if t then links_charged l subtable i b left else Some left }) third in
    ap (λ (x : Applied). record { buffer = x.buffer; next = x.next; seen = seen; left = left })
    (sym (unattached-kind l subtable seen.place i b on is))
    ∙ ap (subtable_placed l subtable i b) (sym none)

-- ---- marks on marks

kind-on-mark : (l : Lookup) (subtable : LookupSubtable) (base : Option ℕ) (i : ℕ) (b : Buffer) → subtable.kind ≡ 6
    → kind_applied l subtable base i b ≡ if_first_format l subtable.start b (mark_mark_applied l subtable.start i b)
kind-on-mark l subtable base i b is = rw is refl

sought-on-mark : (l : Lookup) (subtable : LookupSubtable) (i : ℕ) (b : Buffer) (seen : BaseSeen) (left : ℕ) → subtable.kind ≡ 6
    → sought l subtable i b seen left ≡ record { seen = seen; left = Some left }
sought-on-mark l subtable i b seen left is = rw is refl

pub mark_on_mark_placed : (l : Lookup) (subtable : LookupSubtable) (i : ℕ) (b c : Buffer) (seen : BaseSeen) (left number : ℕ)
    (next : Option ℕ) → subtable.kind ≡ 6 → listed l subtable i b ≡ Some number
    → c ≡ (mark_mark_at l subtable.start i b number).buffer → next ≡ (mark_mark_at l subtable.start i b number).next
    → record { buffer = c; next = next; seen = seen; left = left } ≡ subtable_placed l subtable i b (sought l subtable i b seen left)
mark_on_mark_placed l subtable i b c seen left number next kind is made goes =
    let at = mark_mark_at l subtable.start i b in
    let format = nat_eq (u16_of l.table.now subtable.start) 1 in
    ap (λ d. record { buffer = d; next = next; seen = seen; left = left }) made
    ∙ ap (λ n. record { buffer = (at number).buffer; next = n; seen = seen; left = left }) goes
    ∙ ap (λ (x : Applied). record { buffer = x.buffer; next = x.next; seen = seen; left = left })
    (sym (kind-on-mark l subtable seen.place i b kind
    ∙ listed-made format (mark_number l subtable.start i b) number at (unapplied b) is))
    ∙ ap (subtable_placed l subtable i b) (sym (sought-on-mark l subtable i b seen left kind))

mark_on_mark_unplaced : (l : Lookup) (subtable : LookupSubtable) (i : ℕ) (b : Buffer) (seen : BaseSeen) (left : ℕ)
    → subtable.kind ≡ 6 → listed l subtable i b ≡ None
    → record { buffer = b; next = None; seen = seen; left = left } ≡ subtable_placed l subtable i b (sought l subtable i b seen left)
mark_on_mark_unplaced l subtable i b seen left kind is =
    let at = mark_mark_at l subtable.start i b in
    let format = nat_eq (u16_of l.table.now subtable.start) 1 in
    ap (λ (x : Applied). record { buffer = x.buffer; next = x.next; seen = seen; left = left })
    (sym (kind-on-mark l subtable seen.place i b kind
    ∙ unlisted-made format (mark_number l subtable.start i b) at (unapplied b) is))
    ∙ ap (subtable_placed l subtable i b) (sym (sought-on-mark l subtable i b seen left kind))

-- a subtable of any of these types that doesn't list the glyph
pub unlisted_unplaced : (l : Lookup) (subtable : LookupSubtable) (i : ℕ) (b : Buffer) (seen : BaseSeen) (left : ℕ) (next : Option ℕ)
    → (nat_eq subtable.kind 4 || nat_eq subtable.kind 5 || nat_eq subtable.kind 6) ≡ true → listed l subtable i b ≡ None → next ≡ None
    → record { buffer = b; next = next; seen = seen; left = left } ≡ subtable_placed l subtable i b (sought l subtable i b seen left)
unlisted_unplaced l subtable i b seen left next on is still =
    ap (λ n. record { buffer = b; next = n; seen = seen; left = left }) still ∙ by_type (nat_eq subtable.kind 6) refl
  where
    by_type : (t : Bool) → nat_eq subtable.kind 6 ≡ t
        → record { buffer = b; next = None; seen = seen; left = left } ≡ subtable_placed l subtable i b (sought l subtable i b seen left)
    by_type true six = mark_on_mark_unplaced l subtable i b seen left (grind (arith, nat_tests, six)) is
    by_type false six = mark_unplaced l subtable i b seen left (grind (arith, nat_tests, six, on)) is

-- ---- cursive attachment

links-kind : (l : Lookup) (subtable : LookupSubtable) (i : ℕ) (b : Buffer) (seen : BaseSeen) (left : ℕ) → subtable.kind ≡ 3
    → sought l subtable i b seen left ≡ record { seen = seen; left = links_charged l subtable i b left }
links-kind l subtable i b seen left is = rw is refl

cursive-kind : (l : Lookup) (subtable : LookupSubtable) (base : Option ℕ) (i : ℕ) (b : Buffer) → subtable.kind ≡ 3
    → kind_applied l subtable base i b ≡ if_first_format l subtable.start b (cursive_applied l subtable.start i b)
cursive-kind l subtable base i b is = rw is refl

-- what is left suffices for some links
pub links_placed : (l : Lookup) (subtable : LookupSubtable) (i : ℕ) (b c : Buffer) (seen : BaseSeen) (left links after : ℕ) (next : Option ℕ)
    → subtable.kind ≡ 3 → nat_eq left 0 ≡ false
    → c ≡ (if_first_format l subtable.start b (cursive_applied l subtable.start i b)).buffer
    → next ≡ (if_first_format l subtable.start b (cursive_applied l subtable.start i b)).next
    → links ≡ links_of l subtable i b → after ≡ left - links * LINK_WORK
    → record { buffer = c; next = next; seen = seen; left = after } ≡ subtable_placed l subtable i b (sought l subtable i b seen left)
links_placed l subtable i b c seen left links after next kind some made goes turned charged =
    let rest = left - links_of l subtable i b * LINK_WORK in
    let enough : links_charged l subtable i b left ≡ Some rest = ap (λ t. if t then None else Some rest) some in
    ap (λ d. record { buffer = d; next = next; seen = seen; left = after }) made
    ∙ ap (λ n. record { buffer = (if_first_format l subtable.start b (cursive_applied l subtable.start i b)).buffer; next = n; seen = seen; left = after }) goes
    ∙ ap (λ (x : Applied). record { buffer = x.buffer; next = x.next; seen = seen; left = after }) (sym (cursive-kind l subtable seen.place i b kind))
    ∙ ap (kind_placed l subtable i b seen) (charged ∙ ap (λ n. left - n * LINK_WORK) turned)
    ∙ ap (λ o. option_map_or (kind_placed l subtable i b seen) o (unplaced 0 seen b)) (sym enough)
    ∙ ap (subtable_placed l subtable i b) (sym (links-kind l subtable i b seen left kind))

-- nothing is left
pub links_unpaid : (l : Lookup) (subtable : LookupSubtable) (i : ℕ) (b : Buffer) (seen : BaseSeen) (left : ℕ)
    → subtable.kind ≡ 3 → nat_eq left 0 ≡ true
    → record { buffer = b; next = None; seen = seen; left = 0 } ≡ subtable_placed l subtable i b (sought l subtable i b seen left)
links_unpaid l subtable i b seen left kind none =
    let rest = left - links_of l subtable i b * LINK_WORK in
    let spent : links_charged l subtable i b left ≡ None = ap (λ t. if t then None else Some rest) none in
    ap (λ o. option_map_or (kind_placed l subtable i b seen) o (unplaced 0 seen b)) (sym spent)
    ∙ ap (subtable_placed l subtable i b) (sym (links-kind l subtable i b seen left kind))
