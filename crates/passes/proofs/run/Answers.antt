-- `passes::run` meets its contract. Assumes nothing.
use Rattle.std.proofs.Common.{◌≡◌, ◌<◌, ◌+◌, arith, ap, ◌∙◌, length}
use Rattle.tables.specs.Bytes.{zeros}
use Rattle.passes.proofs.Passing.{cleared, pass_begun, stored_some, stored_none, passed_on, passed_all}
use Rattle.passes.proofs.run.Goals as goal

pub loop-i-init : goal.loop-i-init
unfolding zeros
loop-i-init g c =
    let e = c.into_iter-i-iterator.ensures.into_iter_gives in
    let f = c.places_of-i-items.ensures in
    let i : c.into_iter-i-iterator.result.i ≡ 0 = ap (λ s. s.i) e ∙ f.2 in (
      ap (λ s. s.b.now) e ∙ f.0,
      (
        ap (λ s. s.a) e ∙ f.1,
        (
          omega arith,
          pass_begun (length c.args.t.now) g.S.Record.Place.csd g.S.Record.Place.at (g.S.Pass.key c.args.asked.now)
              (g.S.Pass.on c.args.asked.now) (g.S.Pass.entry c.args.asked.now) g.S.Record.Place.PLACES c.args.b.now c.args.a _ _
              (cleared c.args.t.now _ (c.fill.ensures.after (λ y e. e))) i,
        ),
      ),
    )

pub loop-i-preserved-in-Some-entry : goal.loop-i-preserved-in-Some-entry
loop-i-preserved-in-Some-entry g c =
    let s = c.in-Some.ensures.steps in
    let m = c.loop-i.invariant in
    let next : c.next.new.self.i ≡ c.in-Some.i + 1 = s.3 in
    let h =
    passed_on (length c.args.t.now) g.S.Record.Place.csd g.S.Record.Place.at (g.S.Pass.key c.args.asked.now)
    (g.S.Pass.on c.args.asked.now) (g.S.Pass.entry c.args.asked.now) g.S.Record.Place.PLACES c.args.b.now c.args.a
    c.loop-i.t _ _ _ _ c.in-Some.i _ _ m.1.1.1 m.1.1.0 m.0 m.1.0 s.0 (stored_some _ _ _ _ _ c.store.ensures c.in-Some-entry.is)
    c.entry.ensures c.record_at.ensures
    in
    let low : c.in-Some.i < g.S.Record.Place.PLACES = h.0 in
    (ap (λ x. x.now) s.1 ∙ m.0, (s.2 ∙ m.1.0, (omega arith, rw next h.1)))

pub loop-i-preserved : goal.loop-i-preserved
loop-i-preserved g c =
    let s = c.in-Some.ensures.steps in
    let m = c.loop-i.invariant in
    let next : c.next.new.self.i ≡ c.in-Some.i + 1 = s.3 in
    let h =
    passed_on (length c.args.t.now) g.S.Record.Place.csd g.S.Record.Place.at (g.S.Pass.key c.args.asked.now)
    (g.S.Pass.on c.args.asked.now) (g.S.Pass.entry c.args.asked.now) g.S.Record.Place.PLACES c.args.b.now c.args.a
    c.loop-i.t _ _ _ _ c.in-Some.i _ _ m.1.1.1 m.1.1.0 m.0 m.1.0 s.0 (stored_none _ _ c.in_default.is)
    c.entry.ensures c.record_at.ensures
    in
    let low : c.in-Some.i < g.S.Record.Place.PLACES = h.0 in
    (ap (λ x. x.now) s.1 ∙ m.0, (s.2 ∙ m.1.0, (omega arith, rw next h.1)))

pub returns : goal.returns
returns g c =
    let s = c.in-None.ensures.steps in
    let m = c.loop-i.invariant in
    passed_all (length c.args.t.now) g.S.Record.Place.csd g.S.Record.Place.at (g.S.Pass.key c.args.asked.now)
    (g.S.Pass.on c.args.asked.now) (g.S.Pass.entry c.args.asked.now) g.S.Record.Place.PLACES c.args.b.now c.args.a
    c.loop-i.t _ _ _ m.1.1.1 m.1.1.0 m.0 m.1.0 s.0
