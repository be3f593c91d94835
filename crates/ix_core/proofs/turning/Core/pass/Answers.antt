use Rattle.std.specs.Prelude.{All, ◌||◌, nat_lt, not}
use Rattle.std.specs.List.{list_any}
use Rattle.std.proofs.Common.{◌≡◌, ◌<◌, ◌≤◌, ◌-◌, Bool, ◌++◌, ◌∙◌, ap, false, map, sum_by, sym, true, subst, ℕ}
use Rattle.ix_desk.specs.Pieces.{joined}
use Rattle.ix_desk.specs.Steps.{AllWorked, group_leaves, leave}
use Rattle.ix_core.specs.Landing.{parcel_of}
use Rattle.ix_core.specs.Links.{all_out, all_put, all_taken, homes_weight, link_waits, parcel_lost}
use Rattle.ix_core.specs.Runs.{bounded-worked, run-worked, works_in}
use Rattle.ix_core.specs.Taking.{Takes}
use Rattle.ix_core.specs.Turned.{answer_of}
use Rattle.ix_core.proofs.Aside.{aside_stays}
use Rattle.ix_core.proofs.Turns.{arrivals, frames_taken, heard_up, homes_same, quiet_so, run_failed, turn_weighs, unfailed, whole_links, whole_run}
use Rattle.ix_core.proofs.Idling.{idle_drained, idle_so}
use Rattle.ix_core.proofs.Units.{calm_rests}
use Rattle.ix_core.proofs.turning.Core.pass.Goals as goal

pub returns-clause-ran : goal.returns-clause-ran
returns-clause-ran g c =
    let old = c.args.self.now in
    let h = c.in_ok-heard.ensures.heard in
    let t = c.in_ok-stop.ensures.took in
    let d = c.in_ok-deal_items.ensures in
    let r = c.in_ok-drain_all.ensures.drained in
    let s = c.in_ok-ship_all.ensures.leaves in
    let p = c.in_ok-post.ensures.posts in
    let worked = bounded-worked g.G.Unit.counted g.G.Unit.name g.G.Unit.stepped g.G.Unit.advanced g.G.GroupStack.drained c.args.env.now _ _ _ c.in_ok-frames.ensures.worked in
    let whole = whole_run g.G.Unit.counted g.G.Unit.name g.G.Unit.stepped g.G.Unit.advanced g.G.GroupStack.drained c.args.env.now _ _ _ _ _ _ _ _ _ _ _ h.run d.run worked r.run s.run in
    record {
      items = t.frames ++ t.control;
      dealt = d.items;
      took = t.took;
      queue = sym t.came ∙ d.whole;
      ins = h.ins;
      frees = r.frees;
      outs = s.outs;
      run = whole.run;
      bounds = subst (λ (n : ℕ). All (λ max. max ≤ n) (works_in whole.run.events)) c.frames-batch.ensures.is whole.works;
      links = whole_links _ _ _ _ _ _ _ _ h.links r.links s.links c.send_all.ensures.sent;
      lost = s.lost ∙ ap (λ cores. map parcel_of old.lost.items ++ joined (parcel_lost cores) s.outs) (r.links.cores ∙ h.links.cores);
      posts = p.posts;
      own = p.own;
      put = p.put;
      few = frames_taken t.frames t.control _ _ t.all t.number p.few;
      home = c.give_back.ensures.pool.0 ∙ p.home;
      number = c.give_back.ensures.pool.1 ∙ p.number;
      weight = λ f.
          turn_weighs f (sum_by f old.pool.free) (sum_by f c.post.new.pool.free) (sum_by f c.give_back.new.pool.free)
          (homes_weight f old.links.items) (homes_weight f c.hear_all.new.links.items) (homes_weight f c.send_all.new.links.items) _ _ _ p.posts
          old.returns.items c.hear_all.new.returns.items c.drain_all.new.returns.items c.post.new.returns.items c.give_back.new.returns.items
          (c.give_back.ensures.weight f) (p.weight f) r.kept h.links.cores (h.weight f) (homes_same f _ _ (c.send_all.ensures.takes ∙ s.takes ∙ r.takes));
    }

pub returns-clause-parts : goal.returns-clause-parts
returns-clause-parts g c =
    let old = c.args.self.now in
    let h = c.in_ok-heard.ensures.heard in
    let d = c.in_ok-deal_items.ensures in
    let r = c.in_ok-drain_all.ensures.drained in
    let s = c.in_ok-ship_all.ensures.leaves in
    let worked = run-worked g.G.Unit.counted g.G.Unit.name g.G.Unit.stepped g.G.Unit.advanced g.G.GroupStack.drained c.args.env.now _ _ _ c.in_ok-frames.ensures.worked in
    let told : c.told.result ≡ answer_of c.in_ok-stop.stop c.in_ok-stop.taken c.is_quiet-quiet.result c.in_ok-frames.frames = c.told.ensures in
    record {
      stop = c.in_ok-stop.stop;
      count = c.in_ok-stop.taken;
      came = c.take_items.new.came.items;
      takes = subst (λ (n : ℕ). Takes n c.in_ok-stop.stop c.in_ok-stop.taken old.items c.take_items.new.items old.came.items c.take_items.new.came.items) c.frames-batch.ensures.is c.in_ok-stop.ensures.took;
      hears = heard_up _ _ _ (c.send_all.ensures.takes ∙ s.takes ∙ r.takes) h.stops;
      ins = h.ins;
      dealt = d.items;
      ready = c.deal_items.new.desks;
      arrives = arrivals g.G.Unit.counted g.G.Unit.name g.G.Unit.stepped g.G.Unit.advanced g.G.GroupStack.drained c.args.env.now _ _ _ _ _ h.run d.run;
      queue = d.whole;
      waits = d.waits;
      aside = aside_stays g.G.Unit.counted g.G.Unit.name g.G.Unit.stepped g.G.Unit.advanced g.G.GroupStack.drained c.args.env.now _ _ _ _ _ _ _ _ _ _ _ _ _
          d.run worked r.run s.run r.links s.links c.send_all.ensures.sent r.takes s.takes c.send_all.ensures.takes h.aside;
      done = c.work.new.self;
      works = subst (λ (n : ℕ). AllWorked g.G.Unit.counted g.G.Unit.name g.G.Unit.stepped g.G.Unit.advanced c.args.env.now c.deal_items.new.desks.core n c.deal_items.new.desks c.work.new.self) c.frames-batch.ensures.is c.in_ok-frames.ensures.worked;
      frames = c.in_ok-frames.frames;
      number = c.in_ok-frames.ensures.count ∙ ap (λ (n : ℕ). n - leave (group_leaves g.G.Unit.counted) n c.deal_items.new.desks.groups) c.frames-batch.ensures.is;
      frees = r.frees;
      empty = c.drain_all.new.desks;
      drains = r.run;
      clean = r.clean;
      outs = s.outs;
      leaves = s.run;
      rest = λ less.
          calm_rests g.G.Unit.counted g.G.Unit.name g.G.Unit.stepped g.G.Unit.advanced g.G.GroupStack.drained c.args.env.now _ _ _ _ s.run
          (calm_rests g.G.Unit.counted g.G.Unit.name g.G.Unit.stepped g.G.Unit.advanced g.G.GroupStack.drained c.args.env.now _ _ _ _ r.run (c.in_ok-frames.ensures.done (subst (λ (n : ℕ). c.in_ok-frames.frames < n) (sym c.frames-batch.ensures.is) less)));
      answer = told
          ∙ ap (λ (b : Bool). answer_of c.in_ok-stop.stop c.in_ok-stop.taken b c.in_ok-frames.frames)
          (c.is_quiet-quiet.ensures ∙ quiet_so _ _ _ old.links.items c.hear_all.new.links.items c.ship_all.new.links.items c.send_all.new.links.items h.came (c.any_waits-waits.ensures ∙ ap (list_any link_waits) c.as_slice.ensures.value)
          (c.send_all.ensures.takes ∙ s.takes ∙ r.takes) (s.puts ∙ r.puts ∙ h.puts) c.send_all.ensures.whole
          ∙ ap (λ (b : Bool). not ((nat_lt (all_taken old.links.items) (all_taken c.send_all.new.links.items) || b) || nat_lt (all_put old.links.items) (all_out c.send_all.new.links.items))) c.has_work-busy.ensures.work);
    }

pub returns-clause-nothing : goal.returns-clause-nothing
returns-clause-nothing g c =
    let before : c.deal_items.new.desks.failed ≡ false = unfailed _ (λ e. let clash : false ≡ true = (c.in_ok-frames.ensures.failed e).0 in cc) in
    let here : c.drain_all.new.desks.failed ≡ false =
    run_failed g.G.Unit.counted g.G.Unit.name g.G.Unit.stepped g.G.Unit.advanced g.G.GroupStack.drained c.args.env.now _ _ _ _ _ _ c.in_ok-drain_all.ensures.drained.run.run ∙ (c.in_ok-frames.ensures.worked.failed ∙ before) in
    record {
      units = c.in_ok-ship_all.ensures.none here;
      messages = c.send_all.ensures.behind;
      aside = c.give_back.ensures.aside;
    }

pub returns-clause-idle : goal.returns-clause-idle
returns-clause-idle g c = λ is.
    let some : 1 ≤ c.args.self.now.batch = subst (λ (n : ℕ). 1 ≤ n) c.frames-batch.ensures.is c.frames-batch.ensures.some in
    idle_so g.G.Unit.counted g.G.Unit.name g.G.Unit.stepped g.G.Unit.advanced g.G.GroupStack.drained c.args.env.now _ _ _ some (returns-clause-parts g c) (returns-clause-ran g c) (returns-clause-nothing g c) is

pub returns-clause-drained : goal.returns-clause-drained
returns-clause-drained g c = λ is same.
    let old = c.args.self.now in
    let h = c.in_ok-heard.ensures.heard in
    let r = c.in_ok-drain_all.ensures.drained in
    let s = c.in_ok-ship_all.ensures.leaves in
    idle_drained g.G.Unit.counted g.G.Unit.name g.G.Unit.stepped g.G.Unit.advanced g.G.GroupStack.drained c.args.env.now _ _ _ _ _ _ (whole_links _ _ _ _ _ _ _ _ h.links r.links s.links c.send_all.ensures.sent)
    (s.lost ∙ ap (λ cores. map parcel_of old.lost.items ++ joined (parcel_lost cores) s.outs) (r.links.cores ∙ h.links.cores)) (returns-clause-idle g c is) s.run r.clean same
