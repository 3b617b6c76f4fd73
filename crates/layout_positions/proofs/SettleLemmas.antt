-- what one link, and one place more, do
use Prim.Native.Nat.{zero}
use Rattle.std.proofs.Common.{◌≡◌, ℕ, pos, Bool, true, false, length, nat_lt, slice_set, if◌then◌else◌, suc, ◌+◌, ◌-◌, ◌<◌, Some, None, refl, ap, sym, ◌∙◌, arith}
use Rattle.std.specs.Option.{option_map_or}
use Rattle.std.proofs.lemmas.List.{set-get_or}
use Rattle.shape_common.specs.Positions.{zero_position}
use Rattle.shape_items.specs.Buffer.{Buffer}
use Rattle.layout_positions.specs.Edits.{position_at, position_put}
use Rattle.layout_positions.specs.Attachment.{place_at, parent_of, freed, followed, settled, each}

pub settled_free : (level i : ℕ) (b : Buffer) → parent_of b i ≡ None → settled level i b ≡ freed i b
settled_free zero i b none = refl
settled_free (suc level) i b none = ap (λ o. option_map_or (λ j. followed i j (settled level j (freed i b))) o (freed i b)) none

put-same : (i : ℕ) (b : Buffer) (t : Bool) → (if t then record b { positions = slice_set b.positions i (position_at b i) } else b) ≡ b
put-same i b true = ap (λ ps. record b { positions = ps }) (set-get_or b.positions i zero_position)
put-same i b false = refl

-- a glyph that isn't attached stays as it is
pub settled_still : (level i : ℕ) (b : Buffer) → (position_at b i).attach_chain ≡ pos 0 → settled level i b ≡ b
settled_still level i b free =
    settled_free level i b (ap (place_at (length b.items) i) free)
    ∙ ap (λ c. position_put i (record (position_at b i) { attach_chain = c }) b) (sym free)
    ∙ put-same i b (nat_lt i (length b.items))

pub settled_out : (level i : ℕ) (b : Buffer) → level ≡ 0 → settled level i b ≡ freed i b
settled_out level i b none = ap (λ n. settled n i b) none

pub settled_on : (level i j : ℕ) (b : Buffer) → 0 < level → parent_of b i ≡ Some j
    → settled level i b ≡ followed i j (settled (level - 1) j (freed i b))
settled_on level i j b some is =
    let e : level ≡ suc (level - 1) = omega (arith, some) in
    ap (λ n. settled n i b) e ∙ ap (λ o. option_map_or (λ j. followed i j (settled (level - 1) j (freed i b))) o (freed i b)) is

-- the one that it is attached to isn't attached itself
pub settled_beside : (level i j : ℕ) (b c : Buffer) → 0 < level → parent_of b i ≡ Some j → c ≡ freed i b
    → (position_at c j).attach_chain ≡ pos 0 → settled level i b ≡ followed i j c
settled_beside level i j b c some is made free =
    let still : (position_at (freed i b) j).attach_chain ≡ pos 0 = ap (λ d. (position_at d j).attach_chain) (sym made) ∙ free in
    settled_on level i j b some is ∙ ap (followed i j) (settled_still (level - 1) j (freed i b) still ∙ sym made)

each_next : {S : Type 0} (f : ℕ → S → S) (i : ℕ) (s : S) → each f (i + 1) s ≡ f i (each f i s)
each_next f i s =
    let e : i + 1 ≡ suc i = omega arith in
    rw e refl

pub each_step : {S : Type 0} (f : ℕ → S → S) (i : ℕ) (first here there : S) → here ≡ each f i first → there ≡ f i here
    → there ≡ each f (i + 1) first
each_step f i first here there before now = now ∙ ap (f i) before ∙ sym (each_next f i first)
