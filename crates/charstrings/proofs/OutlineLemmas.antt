-- what one step of a machine adds to the box of its outline
use Rattle.std.proofs.Common.{◌≡◌, ℕ, suc, ◌<◌, ◌+◌, ◌-◌, List, [], ◌∷◌, Option, Some, None, refl, sym, ◌∙◌, arith}
use Rattle.std.specs.Option.{option_and_then, option_map}
use Rattle.cff_tables.specs.declared.font.Layout.{Layout}
use Rattle.charstrings.specs.Machine.{Run, Stepped, step, stepped}
use Rattle.charstrings.specs.Outline.{Outline, outline_from, after_event, begins_with, inked_from, with_stroke, with_strokes, ends}
use Rattle.charstrings.specs.declared.strokes.Stroke.{Stroke}
use Rattle.charstrings.specs.declared.strokes.Accent.{Accent}
use Rattle.charstrings.specs.declared.strokes.Event.{Event}
use Rattle.charstrings.specs.declared.strokes.Event.TheVariants.{Went, Drew, Composed, Ended}
use Rattle.charstrings.specs.declared.bounds.Bounds.{Bounds}
use Rattle.charstrings.specs.declared.bounds.Inked.{Inked}

-- a stroke before an outline, in the box
with_first : (b : Bounds) (s : Stroke) (o : Option Outline)
    → option_map (inked_from b) (option_map (begins_with s) o) ≡ option_map (inked_from (with_stroke b s)) o
with_first b s None = refl
with_first b s (Some o) = refl

pub inked_went : (t : List ℕ) (l : Layout) (local n i : ℕ) (r q : Run) (b : Bounds) → i < n
    → step t l local r ≡ Some (stepped q Went)
    → option_map (inked_from b) (outline_from (n - i) t l local r) ≡ option_map (inked_from b) (outline_from (n - (i + 1)) t l local q)
inked_went t l local n i r q b h is =
    let e : n - i ≡ suc (n - (i + 1)) = omega arith in
    rw e (rw (is, outline_from) refl)

pub inked_drew : (t : List ℕ) (l : Layout) (local n i : ℕ) (r q : Run) (b : Bounds) (s : Stroke) → i < n
    → step t l local r ≡ Some (stepped q (Drew s))
    → option_map (inked_from b) (outline_from (n - i) t l local r)
    ≡ option_map (inked_from (with_stroke b s)) (outline_from (n - (i + 1)) t l local q)
inked_drew t l local n i r q b s h is =
    let e : n - i ≡ suc (n - (i + 1)) = omega arith in
    rw e (rw (is, outline_from) (with_first b s (outline_from (n - (i + 1)) t l local q)))

pub inked_composed : (t : List ℕ) (l : Layout) (local n i : ℕ) (r q : Run) (b : Bounds) (a : Accent) → i < n
    → step t l local r ≡ Some (stepped q (Composed a))
    → option_map (inked_from b) (outline_from (n - i) t l local r) ≡ Some (record { bounds = b; accent = Some a })
inked_composed t l local n i r q b a h is =
    let e : n - i ≡ suc (n - (i + 1)) = omega arith in
    rw e (rw (is, outline_from) refl)

pub inked_ended : (t : List ℕ) (l : Layout) (local n i : ℕ) (r q : Run) (b : Bounds) → i < n
    → step t l local r ≡ Some (stepped q Ended)
    → option_map (inked_from b) (outline_from (n - i) t l local r) ≡ Some (record { bounds = b; accent = None })
inked_ended t l local n i r q b h is =
    let e : n - i ≡ suc (n - (i + 1)) = omega arith in
    rw e (rw (is, outline_from) refl)

pub inked_refused : (t : List ℕ) (l : Layout) (local n i : ℕ) (r : Run) (b : Bounds) → i < n → step t l local r ≡ None
    → option_map (inked_from b) (outline_from (n - i) t l local r) ≡ None
inked_refused t l local n i r b h is =
    let e : n - i ≡ suc (n - (i + 1)) = omega arith in
    rw e (rw (is, outline_from) refl)

pub inked_over : (t : List ℕ) (l : Layout) (local n : ℕ) (r : Run) (b : Bounds)
    → option_map (inked_from b) (outline_from (n - n) t l local r) ≡ None
inked_over t l local n r b =
    let e : n - n ≡ 0 = omega arith in
    rw e refl
