-- What moving glyphs preserves: each glyph stays in its place and its cluster, no flag comes that isn't noted, settings stay, and what
-- is left never rises.
use Rattle.std.proofs.Common.{◌≡◌, ℕ, ◌-◌, ◌≤◌, ◌==◌, Bool, true, false, length, reverse, refl, ap, sym, ◌∙◌, inl, inr, arith, if◌then◌else◌}
use Rattle.std.specs.Int.RustNames.{bit_and}
use Rattle.std.proofs.lemmas.List.{length-map, reverse-reverse}
use Rattle.std.proofs.lemmas.Nat.{and_or_apart}
use Rattle.shape_buffer.specs.PositionWalks.{positions_mapped}
use Rattle.shape_buffer.specs.Preservation.{PreservesOrder}
use Rattle.shape_buffer.proofs.Steps.PreservationLemmas.{PreservesClusters-equal}
use Rattle.shape_common.specs.FlagNames.{HAS_GLYPH_FLAGS, PRODUCE_UNSAFE_TO_CONCAT}
use Rattle.shape_common.specs.declared.positions.GlyphPosition.{GlyphPosition}
use Rattle.shape_items.specs.Buffer.{Buffer}
use Rattle.shape_items.specs.BufferClusters.{unsafe_to_break, unsafe_to_concat, with_glyph_flags}
use Rattle.shape_items.specs.Clusters.{clusters, map_range, mark_concat}
use Rattle.shape_items.specs.Items.{Item}
use Rattle.shape_items.specs.PreservesFlags.{PreservesFlags, has_glyph_flags}
use Rattle.shape_items.proofs.Flags.FlagLemmas.{glyph_flags_set, PreservesFlags-same, PreservesFlags-then, unsafe_to_break_preserves}
use Rattle.shape_items.proofs.Merging.KeyLemmas.{keys-map_range, keys-unsafe_to_break, without_items-unsafe_to_break}
use Rattle.shape_items.proofs.Order.ReversedLemmas.{clusters-reverse, some_has-reverse}
use Rattle.kern_table.specs.Tables.{charged, reversed}
use Rattle.kern_table.specs.Walk.{position_put}
use Rattle.apple_positioning.specs.Runs.{HAS_ATTACHMENT, with_attachment}

pub record Preserves (b c : Buffer) : Type 0 where
  pub clusters : clusters c.items ≡ clusters b.items
  pub flags : PreservesFlags b c
  pub direction : c.direction ≡ b.direction
  pub level : c.cluster_level ≡ b.cluster_level
  pub limit : c.length_limit ≡ b.length_limit
  pub left : c.max_ops ≤ b.max_ops

pub Preserves-same : (b : Buffer) → Preserves b b
Preserves-same b = record {
  clusters = refl;
  flags = PreservesFlags-same b;
  direction = refl;
  level = refl;
  limit = refl;
  left = omega arith;
}

pub Preserves-then : (a b c : Buffer) → Preserves a b → Preserves b c → Preserves a c
Preserves-then a b c first later = record {
  clusters = later.clusters ∙ first.clusters;
  flags = PreservesFlags-then a b c first.flags later.flags;
  direction = later.direction ∙ first.direction;
  level = later.level ∙ first.level;
  limit = later.limit ∙ first.limit;
  left = omega (arith, first.left, later.left);
}

pub Preserves-if : (t : Bool) (a b c : Buffer) → Preserves a b → Preserves a c → Preserves a (if t then b else c)
Preserves-if true a b c x y = x
Preserves-if false a b c x y = y

-- ---- what is preserved of a step of a run

pub Preserves-order : (b c : Buffer) → Preserves b c → PreservesOrder b c
Preserves-order b c keeps = record {
  clusters = PreservesClusters-equal (clusters b.items) (clusters c.items) keeps.clusters;
  direction = keeps.direction;
  flags = keeps.flags.flags;
  level = keeps.level;
}

-- as many clusters are as many items
pub Preserves-count : (b c : Buffer) → Preserves b c → length c.items ≡ length b.items
Preserves-count b c keeps =
    sym (length-map c.items (λ (x : Item). x.cluster)) ∙ ap length keeps.clusters ∙ length-map b.items (λ (x : Item). x.cluster)

-- ---- edits of a list

-- other positions, other notes that leave the one of glyph flags alone, and no more work left
preserves-moved : (b c : Buffer) → c.items ≡ b.items → c.flags ≡ b.flags → has_glyph_flags c ≡ has_glyph_flags b
    → c.direction ≡ b.direction → c.cluster_level ≡ b.cluster_level → c.length_limit ≡ b.length_limit → c.max_ops ≤ b.max_ops
    → Preserves b c
preserves-moved b c items flags noted direction level limit left = record {
  clusters = ap clusters items;
  flags = record {
    flags = flags;
    stays_set = λ set. noted ∙ set;
    none_new = λ flag defined some. inl (rw (sym items) some);
  };
  direction = direction;
  level = level;
  limit = limit;
  left = left;
}

pub Preserves-charged : (b : Buffer) → Preserves b (charged b)
Preserves-charged b = preserves-moved b (charged b) refl refl refl refl refl refl (omega arith)

pub Preserves-paid : (n : ℕ) (b : Buffer) → Preserves b (record b { max_ops = b.max_ops - n })
Preserves-paid n b = preserves-moved b (record b { max_ops = b.max_ops - n }) refl refl refl refl refl refl (omega arith)

pub Preserves-put : (i : ℕ) (p : GlyphPosition) (b : Buffer) → Preserves b (position_put i p b)
Preserves-put i p b = preserves-moved b (position_put i p b) refl refl refl refl refl refl (omega arith)

pub Preserves-mapped : (f : Item → GlyphPosition → GlyphPosition) (b : Buffer) → Preserves b (positions_mapped f b)
unfolding positions_mapped
Preserves-mapped f b = preserves-moved b (positions_mapped f b) refl refl refl refl refl refl (omega arith)

pub Preserves-noted : (b : Buffer) → Preserves b (with_attachment b)
Preserves-noted b =
    preserves-moved b (with_attachment b) refl refl
    (ap (λ n. n == HAS_GLYPH_FLAGS) (and_or_apart HAS_GLYPH_FLAGS b.scratch_flags.0 HAS_ATTACHMENT refl)) refl refl refl (omega arith)

-- ---- spans that are marked

pub Preserves-broken : (start end : ℕ) (b : Buffer) → Preserves b (unsafe_to_break start end b)
Preserves-broken start end b =
    let rest = without_items-unsafe_to_break start end b in
    record {
      clusters = keys-unsafe_to_break (λ (x : Item). x.cluster) (λ x. refl) start end b;
      flags = unsafe_to_break_preserves start end b;
      direction = ap (λ (c : Buffer). c.direction) rest;
      level = ap (λ (c : Buffer). c.cluster_level) rest;
      limit = ap (λ (c : Buffer). c.length_limit) rest;
      left = omega (arith, ap (λ (c : Buffer). c.max_ops) rest);
    }

pub Preserves-concat : (end : ℕ) (b : Buffer) → Preserves b (unsafe_to_concat 0 end b)
Preserves-concat end b =
    Preserves-if (bit_and b.flags.0 PRODUCE_UNSAFE_TO_CONCAT == PRODUCE_UNSAFE_TO_CONCAT) b
    (record (with_glyph_flags b) { items = map_range mark_concat 0 end b.items }) b
    (record {
      clusters = keys-map_range (λ (x : Item). x.cluster) mark_concat (λ x. refl) 0 end b.items (omega arith);
      flags = record { flags = refl; stays_set = λ set. glyph_flags_set b; none_new = λ flag defined some. inr (glyph_flags_set b) };
      direction = refl;
      level = refl;
      limit = refl;
      left = omega arith;
    })
    (Preserves-same b)

-- ---- over a list the other way round

flags-reversed : (b : Buffer) → PreservesFlags b (reversed b)
flags-reversed b = record {
  flags = refl;
  stays_set = λ set. set;
  none_new = λ flag defined some. inl (sym (some_has-reverse flag b.items) ∙ some);
}

pub Preserves-turned : (f : Buffer → Buffer) → ((b : Buffer) → Preserves b (f b)) → (b : Buffer) → Preserves b (reversed (f (reversed b)))
Preserves-turned f each b =
    let there : Buffer = f (reversed b) in
    let keeps : Preserves (reversed b) there = each (reversed b) in
    record {
      clusters = clusters-reverse there.items ∙ ap reverse keeps.clusters ∙ ap reverse (clusters-reverse b.items)
          ∙ reverse-reverse (clusters b.items);
      flags = PreservesFlags-then b (reversed b) (reversed there) (flags-reversed b)
          (PreservesFlags-then (reversed b) there (reversed there) keeps.flags (flags-reversed there));
      direction = keeps.direction;
      level = keeps.level;
      limit = keeps.limit;
      left = keeps.left;
    }
