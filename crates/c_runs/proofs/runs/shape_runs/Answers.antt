use Rattle.std.proofs.Common.{◌≡◌, ◌∙◌, ℕ, List, ◌+◌, ◌-◌, ◌<◌, [], ◌++◌, length, take, drop, get_or, inl, inr, refl, ap, sym, subst, arith}
use Rattle.std.proofs.lemmas.List.{get_or_default}
use Rattle.std.proofs.lemmas.List.Elements.{All-more}
use Rattle.std.specs.Prelude.{All}
use Rattle.shape_items.specs.Buffer.{Buffer}
use Rattle.shape_plan.specs.Run.{Run}
use Rattle.c_runs.specs.Glyphs.{glyphs_of_run}
use Rattle.c_runs.specs.Outcomes.{IsDone}
use Rattle.c_runs.specs.Texts.{IsPlaced, IsText, units_of}
use Rattle.c_runs.specs.declared.plain.luthgarn_glyph.{luthgarn_glyph}
use Rattle.c_runs.specs.declared.plain.luthgarn_run.{luthgarn_run}
use Rattle.c_runs.proofs.RefusalLemmas.{stopped-same}
use Rattle.c_runs.proofs.RunLemmas.{done-more, next-run}
use Rattle.c_runs.proofs.runs.shape_runs.Goals as goal

-- what a run is read as past the end
no_run : luthgarn_run
no_run = record { before = 0; start = 0; end = 0; after = 0; direction = 0; script = 0; flags = 0; level = 0; language = []; glyphs = 0 }

pub returns-in-Err-clause-serves : goal.returns-in-Err-clause-serves
unfolding no_run
returns-in-Err-clause-serves g c =
    let runs = g.S.TextShaper.runs c.args.shaper.now in
    let text = units_of c.args.text in
    let glyphs = glyphs_of_run runs text in
    let old = c.args.runs.now in
    let k = c.loop-k.k in
    let inv = c.loop-k.invariant in
    let lt : k < length old = omega arith in
    record {
      done = subst (λ (room : List luthgarn_glyph). IsDone glyphs old c.loop-k.runs c.args.room.now room k c.loop-k.used)
          (sym c.in-Err.ensures.untouched) inv.done;
      placed = inv.placed;
      text_is = inv.text_is;
      within = (omega arith, inv.fits);
      end = inr (record {
        refusal = c.in-Err.stop.refusal;
        code = c.code.ensures.number;
        some = λ _. lt;
        reason = λ d. stopped-same (g.S.TextShaper.runs c.loop-k.shaper) runs text (get_or c.loop-k.runs k no_run) (get_or old k d)
            (length c.loop-k.room - c.loop-k.used) (length c.args.room.now - c.loop-k.used) c.in-Err.stop.needed c.in-Err.stop.refusal
            inv.same (next-run glyphs old c.args.room.now k c.loop-k.used c.loop-k.runs c.loop-k.room no_run inv.done lt
            ∙ get_or_default old k no_run d lt)
            (ap (λ (n : ℕ). n - c.loop-k.used) c.loop-k.auto.room) c.in-Err.ensures.stop;
      });
    }

pub loop-k-preserved : goal.loop-k-preserved
unfolding no_run
loop-k-preserved g c =
    let runs = g.S.TextShaper.runs c.args.shaper.now in
    let text = units_of c.args.text in
    let glyphs = glyphs_of_run runs text in
    let old = c.args.runs.now in
    let k = c.loop-k.k in
    let inv = c.loop-k.invariant in
    let lt : k < length old = omega arith in
    let run : luthgarn_run = get_or c.loop-k.runs k no_run in
    let is : run ≡ get_or old k no_run = next-run glyphs old c.args.room.now k c.loop-k.used c.loop-k.runs c.loop-k.room no_run inv.done lt in
    let count = c.in-Ok.ensures.count ∙ ap (λ (r : Buffer → Run). length (glyphs_of_run r text run)) inv.same in
    let written = c.in-Ok.ensures.written ∙ ap (λ (r : Buffer → Run). take c.loop-k.used c.loop-k.room
    ++ (glyphs_of_run r text run ++ drop (c.loop-k.used + c.in-Ok.count) c.loop-k.room)) inv.same in
    let within = c.in-Ok.ensures.within in
    record {
      ready = c.in-Ok.ensures.ready;
      same = c.in-Ok.ensures.same ∙ inv.same;
      font = c.in-Ok.ensures.font ∙ inv.font;
      done = done-more glyphs old c.args.room.now k c.loop-k.used c.in-Ok.count c.loop-k.runs c.loop-k.room c.put_run.new.room run no_run
          inv.done lt is count written;
      placed = All-more (IsPlaced text) old k no_run lt inv.placed (subst (IsPlaced text) is c.in-Ok.ensures.valid.0);
      text_is = All-more (IsText text) old k no_run lt inv.text_is (subst (IsText text) is c.in-Ok.ensures.valid.1);
      fits = omega arith;
    }

pub returns-clause-serves : goal.returns-clause-serves
returns-clause-serves g c =
    let runs = g.S.TextShaper.runs c.args.shaper.now in
    let text = units_of c.args.text in
    let old = c.args.runs.now in
    let inv = c.loop-k.invariant in
    let all : c.loop-k.k ≡ length c.loop-k.runs = omega arith in
    record {
      done = subst (λ (k : ℕ). IsDone (glyphs_of_run runs text) old c.loop-k.runs c.args.room.now c.loop-k.room k c.loop-k.used) all inv.done;
      placed = subst (λ (k : ℕ). All (IsPlaced text) (take k old)) all inv.placed;
      text_is = subst (λ (k : ℕ). All (IsText text) (take k old)) all inv.text_is;
      within = (omega arith, inv.fits);
      end = inl (refl, omega arith);
    }
