-- where kerning is on, by the requests of a plan
use Rattle.std.specs.Prelude.{ℕ, ◌%◌, ◌*◌, ◌&&◌, ◌||◌, not, Bool, false, List, fold, max, nat_eq, None, if◌then◌else◌}
use Rattle.std.specs.Int.RustNames.{bit_and}
use Rattle.shape_common.specs.FlagNames.{F_GLOBAL, F_HAS_FALLBACK}
use Rattle.shape_buffer.specs.Layout.{MapMeaning}
use Rattle.shape_common.specs.declared.text_types.hb_tag_t.{hb_tag_t}
use Rattle.shape_buffer.specs.declared.interfaces.map_request.MapRequest.{MapRequest}
use Rattle.shape_buffer.specs.declared.interfaces.map_request.MapRequest.TheVariants.{Feature, Pause, PauseUnless}
use Rattle.kern_table.specs.declared.map.KernMap.{KernMap}
use Rattle.kern_table.specs.declared.map.KernRequests.{KernRequests}

abbrev pub asks : ℕ → ℕ → Bool
asks flags flag = not (nat_eq (bit_and flags flag) 0)

abbrev pub is_kern : hb_tag_t → Bool
is_kern tag = nat_eq tag.0 0x6b65726e

-- one request for the whole text overrides those before it; one for a range keeps what stands outside of it
abbrev pub requested : KernRequests → ℕ → ℕ → KernRequests
requested w flags value = record {
  greatest = if asks flags F_GLOBAL then value else max w.greatest value;
  everywhere = if asks flags F_GLOBAL then value else w.everywhere;
  has_fallback = w.has_fallback || asks flags F_HAS_FALLBACK;
}

abbrev pub requested_by : KernRequests → MapRequest → KernRequests
requested_by w (Feature tag flags value) = if is_kern tag then requested w flags value else w
requested_by w (Pause number) = w
requested_by w (PauseUnless tag) = w

abbrev pub no_kern_requests : KernRequests
no_kern_requests = record { greatest = 0; everywhere = 0; has_fallback = false }

abbrev pub kern_requests_of : List MapRequest → KernRequests
kern_requests_of requests = fold requested_by no_kern_requests requests

abbrev pub map_of : List MapRequest → KernMap
map_of requests = let all = kern_requests_of requests in
    record { is_on = all.has_fallback && not (nat_eq all.greatest 0); everywhere = all.everywhere % 256 }

-- eight bits of the mask, from bit 4 on, hold the value of the feature
abbrev pub kern_mask : KernMap → ℕ
kern_mask m = if m.is_on then 4080 else 0

abbrev pub kern_masks : KernMap → MapMeaning
kern_masks m = record {
  global_mask = if m.is_on then 16 * (m.everywhere % 256) else 0;
  one_mask = λ tag. if is_kern tag && m.is_on then 16 else 0;
  mask = λ tag. (if is_kern tag then kern_mask m else 0, 4);
  feature_index = λ _ _. None;
  stages = 0;
  pause_after = λ _. None;
}
