-- Flags of glyphs that joining needs.
use Rattle.std.specs.Prelude.{◌≡◌, ◌⊎◌, ℕ, zero, suc, ◌+◌, ◌==◌, ◌≤◌, ◌&&◌, ◌||◌, not, Bool, true, false, if◌then◌else◌, Option, None, Some, is_some}
use Rattle.std.specs.Prelude.{List, length, min, map, refl}
use Rattle.std.specs.Int.RustNames.{bit_and, bit_or}
use Rattle.std.proofs.Common.{ap, sym, inl, inr, ◌∙◌, arith}
use Rattle.std.proofs.lemmas.Bool.{cases_Bool}
use Rattle.std.proofs.lemmas.Nat.{and_or_self}
use Rattle.std.specs.Int.Bits.{or_add_and}
use Rattle.shape_items.specs.Buffer.{Buffer}
use Rattle.shape_items.specs.BufferClusters.{safe_to_insert_tatweel, unsafe_to_concat}
use Rattle.shape_items.specs.Clusters.{mark_concat}
use Rattle.shape_items.specs.Items.{Item}
use Rattle.shape_items.proofs.Merging.ClusterLemmas.{unsafe_to_break-cases, tatweel-cases}
use Rattle.shape_items.proofs.Merging.KeyLemmas.{keys-map_range, keys-safe_to_insert_tatweel}
use Rattle.shape_plan.specs.Shaper.{ChangesMasksAlone, without_mask}
use Rattle.letter_joining.specs.Joining.{kind_of, next_state, form_before}
use Rattle.letter_joining.specs.Forms.{kind_before, kind_after, begun, item_at, formed, formed-alone}
use Rattle.letter_joining.specs.declared.joining.Kind.{Kind}
use Rattle.letter_joining.specs.declared.joining.Kind.TheVariants as kind
use Rattle.letter_joining.specs.declared.joining.State.{State}
use Rattle.letter_joining.specs.declared.joining.State.TheVariants as state
use Rattle.letter_joining.specs.declared.joining.Form.{Form}
use Rattle.letter_joining.specs.declared.joining.Form.TheVariants as form
use Rattle.letter_joining.specs.declared.flags.Walk.{Walk}
use Rattle.letter_joining.specs.declared.forms.FormMasks.{FormMasks}

abbrev pub joins_back : Kind → Bool
joins_back kind.Apart = false
joins_back kind.Left = false
joins_back _ = true

-- the next letter may change the form of the one before it
abbrev pub may_change : State → Bool
may_change state.Begun = true
may_change state.Going = true
may_change state.JoinedAlaph = true
may_change state.FinalAlaph = true
may_change _ = false

abbrev pub is_form : Form → Bool
is_form form.None = false
is_form _ = true

abbrev pub changes : State → Kind → Bool
changes s k = is_form (form_before s k)

-- letters that join are safe to lengthen between, or unsafe to break if that isn't asked for
abbrev pub marked_pair : Bool → Bool → ℕ → ℕ → Buffer → Buffer
marked_pair joined apart start end b =
    if joined then safe_to_insert_tatweel start end b else (if apart then unsafe_to_concat start end b else b)

abbrev pub place_or : Option ℕ → ℕ → ℕ
place_or None i = 0
place_or (Some place) i = min place i

abbrev pub start_of : Walk → ℕ → ℕ
start_of walk i = place_or walk.place i

abbrev pub walk_by : Walk → Option Kind → ℕ → Walk
walk_by walk None i = walk
walk_by walk (Some k) i = record { state = next_state walk.state k; place = Some i }

abbrev pub marked_by : Walk → Option Kind → ℕ → Buffer → Buffer
marked_by walk None i b = b
marked_by walk (Some k) i b =
    marked_pair (is_some walk.place && changes walk.state k) (joins_back k || (is_some walk.place && may_change walk.state))
    (start_of walk i) (i + 1) b

abbrev pub mark_walk : Walk → ℕ → Buffer → Walk
mark_walk walk i b = walk_by walk (kind_of (item_at b.items i).codepoint) i

abbrev pub marked_at : Walk → ℕ → Buffer → Buffer
marked_at walk i b = marked_by walk (kind_of (item_at b.items i).codepoint) i b

abbrev pub marked_next : ℕ → Buffer × Walk → Buffer × Walk
marked_next i (b, walk) = (marked_at walk i b, mark_walk walk i b)

-- the first so many items marked, and where the walk stands then
abbrev pub marked_to : Walk → ℕ → Buffer → Buffer × Walk
marked_to walk zero b = (b, walk)
marked_to walk (suc i) b = marked_next i (marked_to walk i b)

abbrev pub marked_end : Walk → Option Kind → Buffer → Buffer
marked_end walk None b = b
marked_end walk (Some k) b =
    marked_pair (is_some walk.place && changes walk.state k) (is_some walk.place && may_change walk.state)
    (start_of walk (length b.items)) (length b.items) b

abbrev pub begun_walk : Buffer → Walk
begun_walk b = record { state = (begun (kind_before b.pre_context)).state; place = None }

abbrev pub marked : Buffer → Buffer
marked b =
    let walked = marked_to (begun_walk b) (length b.items) b in
    marked_end walked.1 (kind_after b.post_context) walked.0

-- ---- nothing but masks is changed, and the scratch flag "has glyph flags"

or_twice : (s : ℕ) → bit_or (bit_or s 32) 32 ≡ bit_or s 32
or_twice s =
    let sum = or_add_and (bit_or s 32) 32 in
    let has = and_or_self 32 s in
    omega (arith, sum, has)

abbrev pub Scratch : ℕ → ℕ → Type 0
Scratch before after = (after ≡ before) ⊎ (after ≡ bit_or before 32)

scratch-then : (a b c : ℕ) → Scratch a b → Scratch b c → Scratch a c
scratch-then a b c (inl p) (inl q) = inl (q ∙ p)
scratch-then a b c (inl p) (inr q) = inr (q ∙ ap (λ s. bit_or s 32) p)
scratch-then a b c (inr p) (inl q) = inr (q ∙ p)
scratch-then a b c (inr p) (inr q) = inr (q ∙ ap (λ s. bit_or s 32) p ∙ or_twice a)

pub alone-then : (a b c : Buffer) → ChangesMasksAlone a b → ChangesMasksAlone b c → ChangesMasksAlone a c
alone-then a b c first second = record {
  items = second.items ∙ first.items;
  scratch = scratch-then a.scratch_flags.0 b.scratch_flags.0 c.scratch_flags.0 first.scratch second.scratch;
  rest = ap (λ (x : Buffer). record x { items = a.items; scratch_flags = a.scratch_flags }) second.rest ∙ first.rest;
}

pub alone-same : (b : Buffer) → ChangesMasksAlone b b
alone-same b = record { items = refl; scratch = inl refl; rest = refl }

-- a buffer with all else of another
abbrev restored : Buffer → Buffer → Buffer
restored b c = record c { items = b.items; scratch_flags = b.scratch_flags }

alone-tatweel : (start end : ℕ) (b : Buffer) → ChangesMasksAlone b (safe_to_insert_tatweel start end b)
alone-tatweel start end b = record {
  items = keys-safe_to_insert_tatweel without_mask (λ item. refl) (λ item. refl) start end b;
  scratch = (let P : Buffer → Type 0 = λ c. Scratch b.scratch_flags.0 c.scratch_flags.0 in
      tatweel-cases P start end b (λ long. inr refl) (inl refl) (unsafe_to_break-cases P start end b (λ long. inr refl) (inl refl)));
  rest = (let P : Buffer → Type 0 = λ c. restored b c ≡ b in
      tatweel-cases P start end b (λ long. refl) refl (unsafe_to_break-cases P start end b (λ long. refl) refl));
}

alone-concat : (start end : ℕ) (b : Buffer) → start ≤ end → ChangesMasksAlone b (unsafe_to_concat start end b)
alone-concat start end b le = elim (cases_Bool (bit_and b.flags.0 64 == 64)) [
  | inl asked ↦ rw asked (record {
    items = keys-map_range without_mask mark_concat (λ item. refl) start end b.items le;
    scratch = inr refl;
    rest = refl;
  })
  | inr unasked ↦ rw unasked (alone-same b)
]

alone-pair : (joined apart : Bool) (start end : ℕ) (b : Buffer) → start ≤ end → ChangesMasksAlone b (marked_pair joined apart start end b)
alone-pair true apart start end b le = alone-tatweel start end b
alone-pair false true start end b le = alone-concat start end b le
alone-pair false false start end b le = alone-same b

start-within : (place : Option ℕ) (i : ℕ) → place_or place i ≤ i
start-within None i = omega arith
start-within (Some place) i = omega arith

alone-by : (walk : Walk) (k : Option Kind) (i : ℕ) (b : Buffer) → ChangesMasksAlone b (marked_by walk k i b)
alone-by walk None i b = alone-same b
alone-by walk (Some k) i b =
    let le = start-within walk.place i in
    alone-pair (is_some walk.place && changes walk.state k) (joins_back k || (is_some walk.place && may_change walk.state))
    (start_of walk i) (i + 1) b (omega (arith, le))

alone-end : (walk : Walk) (k : Option Kind) (b : Buffer) → ChangesMasksAlone b (marked_end walk k b)
alone-end walk None b = alone-same b
alone-end walk (Some k) b =
    alone-pair (is_some walk.place && changes walk.state k) (is_some walk.place && may_change walk.state) (start_of walk (length b.items))
    (length b.items) b (start-within walk.place (length b.items))

alone-to : (walk : Walk) (n : ℕ) (b : Buffer) → ChangesMasksAlone b (marked_to walk n b).0
alone-to walk zero b = alone-same b
alone-to walk (suc i) b =
    let c = (marked_to walk i b).0 in
    let w = (marked_to walk i b).1 in
    alone-then b c _ (alone-to walk i b) (alone-by w (kind_of (item_at c.items i).codepoint) i c)

pub marked-alone : (b : Buffer) → ChangesMasksAlone b (marked b)
marked-alone b =
    let walked = marked_to (begun_walk b) (length b.items) b in
    alone-then b walked.0 _ (alone-to (begun_walk b) (length b.items) b) (alone-end walked.1 (kind_after b.post_context) walked.0)

-- masks of forms, and flags
abbrev pub joined : FormMasks → Bool → Buffer → Buffer
joined masks mongolian b = marked (formed masks mongolian b)

pub joined-alone : (masks : FormMasks) (mongolian : Bool) (b : Buffer) → ChangesMasksAlone b (joined masks mongolian b)
joined-alone masks mongolian b =
    alone-then b (formed masks mongolian b) _ (formed-alone masks mongolian b) (marked-alone (formed masks mongolian b))
