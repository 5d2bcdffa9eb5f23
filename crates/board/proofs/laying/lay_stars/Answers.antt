use Rattle.std.proofs.Common.{rules, ◌≡◌, ℕ, true, [], ◌∷◌, length, get_or, sym, ap, subst, ◌∙◌}
use Rattle.index_sets.specs.Indices.{contains, all_but}
use Rattle.chronicle.specs.History.{ShareSeen}
use Rattle.journal_defs.specs.declared.commit.Commit.{Commit as TheCommit}
use Rattle.board.proofs.Laid.{lays_more, lays_owns}
use Rattle.board.proofs.laying.lay_stars.Goals as goal

pub split_parts-share-requires-clause-owns : goal.split_parts-share-requires-clause-owns
split_parts-share-requires-clause-owns c =
    let v : c.len-v.result ≡ length c.loop-star.cells.items = c.len-v.ensures ∙ c.loop-star.cells.ok.0 in
    subst (λ (k : ℕ). contains c.loop-star.whole.parts k ≡ true) (sym v)
    (lays_owns c.args.root.now c.args.whole.now c.loop-star.whole c.args.stars.items _ c.loop-star.cells.items c.loop-star.invariant.0)

pub loop-star-preserved : goal.loop-star-preserved
loop-star-preserved c =
    let v : c.len-v.result ≡ length c.loop-star.cells.items = c.len-v.ensures ∙ c.loop-star.cells.ok.0 in
    let w = c.loop-star.whole in (
      lays_more c.args.root.now c.args.whole.now w c.split_parts-share.new.from c.split_parts-share.result c.args.stars.items _ _ c.loop-star.cells.items c.push-pushed.new.self.items
          (record { star = c.in-Some.star; stamp = _ }) c.args.stamps.now c.args.root.now.chronicle.first c.requires.base c.requires.legal c.requires.stars c.requires.stamps
          (ap (λ (s : ShareSeen TheCommit). s.of) c.requires.whole) (ap (λ (s : ShareSeen TheCommit). s.seen) c.requires.whole) c.loop-star.invariant.0 c.in-Some.ensures.cases.0 (ap (λ (k : ℕ). get_or c.args.stamps.now k 0) v)
          (c.split_parts-share.ensures.left ∙ ap (λ (k : ℕ). record w { parts = all_but w.parts k }) v)
          (c.split_parts-share.ensures.right ∙ ap (λ (k : ℕ). record w { caller = 0; mine = []; parts = k ∷ [] }) v)
          c.in-Ok.ensures.items,
      search rules,
    )
