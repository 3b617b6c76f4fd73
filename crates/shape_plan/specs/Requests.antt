-- What a planner asks of the layout engine, in order.
use Rattle.std.specs.Prelude.{◌==◌, ℕ, Bool, true, false, ◌&&◌, not, List, [], ◌∷◌, ◌++◌, map, length, Option, None, is_some, if◌then◌else◌}
use Rattle.std.specs.Option.{option_map, option_map_or}
use Rattle.shape_common.specs.Direction.{is_horizontal}
use Rattle.shape_common.specs.FlagNames.{F_NONE, F_GLOBAL, F_HAS_FALLBACK, F_GLOBAL_SEARCH, F_RANDOM}
use Rattle.shape_common.specs.FlagNames.{F_GLOBAL_MANUAL_JOINERS, F_GLOBAL_HAS_FALLBACK}
use Rattle.shape_buffer.specs.MapBuilder.{Builder, with_requests, feature, feature_on, pause}
use Rattle.shape_common.specs.declared.text_types.Direction.{Direction}
use Rattle.shape_common.specs.declared.text_types.Direction.TheVariants.{LeftToRight, RightToLeft}
use Rattle.shape_common.specs.declared.text_types.Feature.{Feature}
use Rattle.shape_common.specs.declared.text_types.Script.{Script}
use Rattle.shape_common.specs.declared.text_types.hb_tag_t.{hb_tag_t}
use Rattle.shape_buffer.specs.declared.interfaces.map_request.MapRequest.{MapRequest}
use Rattle.shape_plan.specs.Tags as tag

-- a feature of value 1: `on` adds F_GLOBAL to its flags, so that it is on over the whole text, and `add` leaves its
-- flags as they are
abbrev pub on : hb_tag_t → ℕ → MapRequest
on tag flags = feature_on tag flags 1

abbrev pub add : hb_tag_t → ℕ → MapRequest
add tag flags = feature tag flags 1

-- variations come first, and substitution pauses after them
abbrev pub variations : List MapRequest
variations = on tag.rvrn F_NONE ∷ pause None ∷ []

-- the forms of a horizontal direction; right to left the mirrored ones are asked for, but not switched on
abbrev pub forms : Direction → List MapRequest
forms LeftToRight = on tag.ltra F_NONE ∷ on tag.ltrm F_NONE ∷ []
forms RightToLeft = on tag.rtla F_NONE ∷ add tag.rtlm F_NONE ∷ []
forms _ = []

-- fractions, which masks switch on where digits stand round a slash
abbrev pub fractions : List MapRequest
fractions = add tag.frac F_NONE ∷ add tag.numr F_NONE ∷ add tag.dnom F_NONE ∷ []

-- alternates at random, up to the greatest value (255)
abbrev pub random : List MapRequest
random = feature_on tag.rand F_RANDOM 255 ∷ []

-- tracking, whose work a table of its own may do, and two features of faces that come before those of a script
abbrev pub tracking : List MapRequest
tracking = on tag.trak F_HAS_FALLBACK ∷ on tag.harf F_NONE ∷ on tag.harf_discretionary F_NONE ∷ []

-- all that is asked for before the shaper's hook
abbrev pub first_requests : Direction → List MapRequest
first_requests direction = variations ++ forms direction ++ fractions ++ random ++ tracking

-- two features of faces that come after those of a script
abbrev pub after_script : List MapRequest
after_script = on tag.buzz F_NONE ∷ on tag.buzz_discretionary F_NONE ∷ []

-- the features of every text
abbrev pub common : List MapRequest
common =
    add tag.abvm F_GLOBAL ∷ add tag.blwm F_GLOBAL ∷ add tag.ccmp F_GLOBAL ∷ add tag.locl F_GLOBAL
    ∷ add tag.mark F_GLOBAL_MANUAL_JOINERS ∷ add tag.mkmk F_GLOBAL_MANUAL_JOINERS ∷ add tag.rlig F_GLOBAL ∷ []

-- those of horizontal texts
abbrev pub horizontal : List MapRequest
horizontal =
    add tag.calt F_GLOBAL ∷ add tag.clig F_GLOBAL ∷ add tag.curs F_GLOBAL ∷ add tag.dist F_GLOBAL
    ∷ add tag.kern F_GLOBAL_HAS_FALLBACK ∷ add tag.liga F_GLOBAL ∷ add tag.rclt F_GLOBAL ∷ []

-- those of other texts: vertical forms, under whichever script of the table has them
abbrev pub vertical : List MapRequest
vertical = on tag.vert F_GLOBAL_SEARCH ∷ []

-- those of a direction
abbrev pub directed : Direction → List MapRequest
directed direction = if is_horizontal direction then horizontal else vertical

-- a feature is global if its range is the whole text: from 0 to the greatest number of 32 bits
abbrev pub is_global : Feature → Bool
is_global f = f.start == 0 && f.end == 0xFFFFFFFF

-- what the user asks for: on over the whole text if it is global, else only where masks say so
abbrev pub user_request : Feature → MapRequest
user_request f = feature f.tag (if is_global f then F_GLOBAL else F_NONE) f.value

-- all that is asked for between the shaper's two hooks
abbrev pub later_requests : Direction → List Feature → List MapRequest
later_requests direction features = after_script ++ common ++ directed direction ++ map user_request features

-- what a hook asks for, by the builder as it stands; none if the shaper is not used or does not give the hook
abbrev pub Collector : Type 0
Collector = Option (Builder → Direction → Option Script → List MapRequest)

-- a hook of a shaper, if it is used and gives the hook
abbrev pub hook_of : {S H : Type 0} → Bool → (S → H) → Option S → Option H
hook_of given hook shaper = if given then option_map hook shaper else None

-- a hook's requests at the end of a builder
abbrev pub hooked : Collector → Direction → Option Script → Builder → Builder
hooked collector direction script builder =
    option_map_or (λ collect. with_requests builder (collect builder direction script)) collector builder

-- a builder is simple no longer if the test holds
abbrev pub not_simple_if : Bool → Builder → Builder
not_simple_if test builder = if test then record builder { is_simple = false } else builder

-- the builder up to the shaper's first hook
abbrev pub begun_requests : Direction → Builder → Builder
begun_requests direction builder = with_requests (record builder { is_simple = true }) (first_requests direction)

-- with that hook, which makes it simple no longer before it runs
abbrev pub collected : Collector → Direction → Option Script → Builder → Builder
collected collects direction script builder = hooked collects direction script (not_simple_if (is_some collects) builder)

-- with the features of every text and of the user; if the user asks for some it is simple no longer
abbrev pub widened : Direction → List Feature → Builder → Builder
widened direction features builder = with_requests (not_simple_if (not (length features == 0)) builder) (later_requests direction features)

-- all that a planner asks for, by its direction and script, the shaper's two hooks, the user's features and the builder
-- as it stands
unfoldable pub requested : Direction → Option Script → Collector → Collector → List Feature → Builder → Builder
requested direction script collects overrides features builder =
    hooked overrides direction script (widened direction features (collected collects direction script (begun_requests direction builder)))
