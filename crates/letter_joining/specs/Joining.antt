-- How letters join: kinds of characters, states between them, and the forms of letters.
use Rattle.std.specs.Prelude.{ℕ, ◌+◌, ◌*◌, ◌==◌, ◌&&◌, ◌||◌, nat_le, Bool, true, false, Option, None, Some}
use Rattle.ucd_bidi.specs.JoiningType.{joining_type}
use Rattle.ucd_bidi.specs.JoiningGroup.{joining_group}
use Rattle.ucd_bidi.specs.declared.JoiningType.{JoiningType}
use Rattle.ucd_bidi.specs.declared.JoiningType.TheVariants.{JoinCausing, DualJoining, LeftJoining, RightJoining, Transparent, NonJoining}
use Rattle.ucd_bidi.specs.declared.JoiningGroup.{JoiningGroup}
use Rattle.ucd_bidi.specs.declared.JoiningGroup.TheVariants as group
use Rattle.letter_joining.specs.declared.joining.Kind.{Kind}
use Rattle.letter_joining.specs.declared.joining.Kind.TheVariants as kind
use Rattle.letter_joining.specs.declared.joining.State.{State}
use Rattle.letter_joining.specs.declared.joining.State.TheVariants as state
use Rattle.letter_joining.specs.declared.joining.Form.{Form}
use Rattle.letter_joining.specs.declared.joining.Form.TheVariants as form

-- of letters that join to the one before them alone, two groups of Syriac are kinds of their own
abbrev pub right_kind : JoiningGroup → Kind
right_kind group.Alaph = kind.Alaph
right_kind group.DalathRish = kind.DalathRish
right_kind _ = kind.Right

-- a transparent character has no kind
abbrev pub kind_by : JoiningType → JoiningGroup → Option Kind
kind_by Transparent g = None
kind_by NonJoining g = Some kind.Apart
kind_by LeftJoining g = Some kind.Left
kind_by DualJoining g = Some kind.Dual
kind_by JoinCausing g = Some kind.Dual
kind_by RightJoining g = Some (right_kind g)

abbrev pub kind_of : ℕ → Option Kind
kind_of c = kind_by (joining_type c) (joining_group c)

-- what stands before the next letter
abbrev pub after_dual : State → State
after_dual state.Begun = state.Going
after_dual state.Going = state.Going
after_dual _ = state.Begun

abbrev pub after_alaph : State → State
after_alaph state.Free = state.Ended
after_alaph state.Begun = state.JoinedAlaph
after_alaph state.Going = state.JoinedAlaph
after_alaph _ = state.FinalAlaph

abbrev pub next_state : State → Kind → State
next_state s kind.Apart = state.Free
next_state s kind.Left = state.Begun
next_state s kind.Right = state.Ended
next_state s kind.DalathRish = state.AfterDalath
next_state s kind.Dual = after_dual s
next_state s kind.Alaph = after_alaph s

-- the form of a letter, by what stands before it
abbrev pub form_of_alaph : State → Form
form_of_alaph state.Free = form.Isol
form_of_alaph state.Begun = form.Fina
form_of_alaph state.Going = form.Fina
form_of_alaph state.AfterDalath = form.Fin3
form_of_alaph _ = form.Fin2

abbrev pub form_of_letter : State → Form
form_of_letter state.Begun = form.Fina
form_of_letter state.Going = form.Fina
form_of_letter _ = form.Isol

abbrev pub own_form : State → Kind → Form
own_form s kind.Apart = form.None
own_form s kind.Left = form.Isol
own_form s kind.Alaph = form_of_alaph s
own_form s _ = form_of_letter s

-- the form that a letter gets from the next one, by what stands before that; none if it keeps its own
abbrev pub form_by_state : State → Form
form_by_state state.Begun = form.Init
form_by_state state.Going = form.Medi
form_by_state state.JoinedAlaph = form.Med2
form_by_state state.FinalAlaph = form.Isol
form_by_state _ = form.None

abbrev pub form_before : State → Kind → Form
form_before s kind.Apart = form.None
form_before s kind.Left = form.None
form_before s _ = form_by_state s

abbrev pub form_or : Form → Form → Form
form_or own form.None = own
form_or own other = other

-- the form of a letter between what stands before it and the next letter
abbrev pub settled : State → Kind → Option Kind → Form
settled s k None = own_form s k
settled s k (Some next) = form_or (own_form s k) (form_before (next_state s k) next)

-- the next letter may give this one its form
abbrev pub is_joined_by : Option Kind → Bool
is_joined_by None = false
is_joined_by (Some kind.Apart) = false
is_joined_by (Some kind.Left) = false
is_joined_by (Some _) = true

-- the form of a letter before one that joins to it
abbrev pub joined_form : State → Kind → Form
joined_form s k = form_or (own_form s k) (form_by_state (next_state s k))

-- the places of kinds, states and forms in tables
abbrev pub kind_number : Kind → ℕ
kind_number kind.Apart = 0
kind_number kind.Left = 1
kind_number kind.Right = 2
kind_number kind.Dual = 3
kind_number kind.Alaph = 4
kind_number kind.DalathRish = 5

abbrev pub state_number : State → ℕ
state_number state.Free = 0
state_number state.Ended = 1
state_number state.Begun = 2
state_number state.Going = 3
state_number state.JoinedAlaph = 4
state_number state.FinalAlaph = 5
state_number state.AfterDalath = 6

abbrev pub form_number : Form → ℕ
form_number form.None = 0
form_number form.Isol = 1
form_number form.Fina = 2
form_number form.Fin2 = 3
form_number form.Fin3 = 4
form_number form.Medi = 5
form_number form.Med2 = 6
form_number form.Init = 7

-- a row of eight for each kind
abbrev pub place_of : State → Kind → ℕ
place_of s k = kind_number k * 8 + state_number s

-- a variation selector of Mongolian, which has the form of its letter
abbrev pub is_selector : ℕ → Bool
is_selector c = (nat_le 0x180B c && nat_le c 0x180D) || (c == 0x180F)
