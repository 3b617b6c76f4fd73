use Rattle.std.proofs.Common.{◌≡◌, ◌≤◌, length}
use Rattle.opened_face.specs.Pages.{IsIndexOf}
use Rattle.opened_face.proofs.pages.index_of.Given as goal

abbrev pub invariant-loop-page : goal.invariant-loop-page
invariant-loop-page l = record {
  so_far : length l.index.items ≡ l.page;
  place : l.place ≤ length l.pages;
  ok : IsIndexOf l.pages l.index.items;
}
