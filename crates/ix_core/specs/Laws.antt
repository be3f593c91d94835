-- Turns one after the other.
use Rattle.std.proofs.Common.{◌≡◌, ◌+◌, ◌≤◌, ℕ, Bool, true, false, List, [], ◌++◌, map, refl, sym, ap, subst, ◌∙◌, append-nil, arith, length-append}
use Rattle.std.specs.Prelude.{count_by, if◌then◌else◌}
use Rattle.std.proofs.lemmas.List.{map-append}
use Rattle.std.proofs.lemmas.List.Elements.{All-append, All-nil}
use Rattle.std.proofs.lemmas.List.Sums.{sum_by-append}
use Rattle.ix_mbuf.specs.Buffers.{Buffer, buffers_weight}
use Rattle.ix_ring.specs.Ends.{put_list, taken}
use Rattle.ix_desk.specs.Pieces.{joined}
use Rattle.ix_stack.specs.declared.item.Item.{Item}
use Rattle.ix_stack.specs.declared.work.Work.{Work}
use Rattle.ix_stack.specs.Items.{is_frame}
use Rattle.ix_core.specs.declared.turning.Core.{Core}
use Rattle.ix_core.specs.Landing.{parcel_of}
use Rattle.ix_core.specs.LinkRuns.{links_join, links_stay, same_links, same_links_join}
use Rattle.ix_core.specs.Items.{ring_item}
use Rattle.ix_core.specs.Links.{LinksRan, all_of, buffer_left, cores_of, parcel_lost}
use Rattle.ix_core.specs.Lists.{chain, grows}
use Rattle.ix_core.specs.Renewing.{IsOf}
use Rattle.ix_core.specs.Runs.{Bounded, bounded-joins, bounded-stays, joined-append}
use Rattle.ix_core.specs.Cores.{CoreBecame, Ran, SameEnds}

same_ends : {U E : Type 0} (x : Core U E) → SameEnds x x
same_ends x = record { home = refl; batch = refl; items = refl; posted = (refl, refl); links = same_links x.links.items }

ends_join : {U E : Type 0} (x y z : Core U E) → SameEnds x y → SameEnds y z → SameEnds x z
ends_join x y z p q = record {
  home = q.home ∙ p.home;
  batch = q.batch ∙ p.batch;
  items = q.items ∙ p.items;
  posted = (q.posted.0 ∙ p.posted.0, q.posted.1 ∙ p.posted.1);
  links = same_links_join x.links.items y.links.items z.links.items p.links q.links;
}

all-append : (a b : List (List Buffer)) → all_of (a ++ b) ≡ all_of a ++ all_of b
all-append a b = joined-append (λ (bufs : List Buffer). bufs) a b

-- what isn't marked wasn't
unmarked : (a b : Bool) → (a ≡ true → b ≡ true) → b ≡ false → a ≡ false
unmarked true b m e = absurd (let t = m refl in cc)
unmarked false b m e = refl

-- the frames among what was taken by some turns and then by some more
frames_join : (xs ys : List Item) (m n : ℕ) → m ≤ count_by is_frame xs → n ≤ count_by is_frame ys → m + n ≤ count_by is_frame (xs ++ ys)
frames_join xs ys m n p q = omega (arith, p, q, sum_by-append (λ (x : Item). if is_frame x then 1 else 0) xs ys)

module _ {U E : Type 0} (counted : Work → Bool) (name : Work → ℕ) (stepped : U → List (ℕ × ℕ)) (advanced : U → E → ℕ → List Work → U → Type 0) (drained : U → List Buffer → U → Type 0) (env : E) where
  ran_stays : (x : Core U E) → Ran counted name stepped advanced drained env x x
  ran_stays x = record {
    items = [];
    dealt = [];
    took = sym (append-nil _);
    queue = append-nil _;
    ins = [];
    frees = [];
    outs = [];
    run = (bounded-stays counted name stepped advanced drained env x.batch x.desks).run;
    bounds = (bounded-stays counted name stepped advanced drained env x.batch x.desks).works;
    links = links_stay x.links.items;
    lost = sym (append-nil _);
    posts = [];
    own = All-nil (λ (b : Buffer). IsOf x.pool b.name);
    put = sym (append-nil _);
    few = omega arith;
    home = refl;
    number = refl;
    weight = λ f. refl;
  }

  ran_joins : (x y z : Core U E) → y.batch ≡ x.batch → Ran counted name stepped advanced drained env x y → Ran counted name stepped advanced drained env y z → Ran counted name stepped advanced drained env x z
  ran_joins x y z same p q =
      let later = subst (λ n. Bounded counted name stepped advanced drained env n y.desks z.desks (map ring_item q.dealt) q.ins q.frees q.outs) same (record { run = q.run; works = q.bounds }) in
      let joined_runs = bounded-joins counted name stepped advanced drained env x.batch x.desks y.desks z.desks (map ring_item p.dealt) (map ring_item q.dealt) p.ins q.ins p.frees q.frees p.outs q.outs
      (record { run = p.run; works = p.bounds }) later in
      let whole = subst (λ items. Bounded counted name stepped advanced drained env x.batch x.desks z.desks items (p.ins ++ q.ins) (p.frees ++ q.frees) (p.outs ++ q.outs)) (sym (map-append ring_item p.dealt q.dealt)) joined_runs in
      record {
        items = p.items ++ q.items;
        dealt = p.dealt ++ q.dealt;
        took = grows (taken x.items) (taken y.items) (taken z.items) p.items q.items p.took q.took;
        queue = chain x.came.items y.came.items z.came.items p.items q.items p.dealt q.dealt p.queue q.queue;
        ins = p.ins ++ q.ins;
        frees = p.frees ++ q.frees;
        outs = p.outs ++ q.outs;
        run = whole.run;
        bounds = whole.works;
        links = subst (λ bufs. LinksRan (p.ins ++ q.ins) bufs (p.outs ++ q.outs) x.links.items z.links.items) (sym (all-append p.frees q.frees))
            (links_join p.ins q.ins (all_of p.frees) (all_of q.frees) p.outs q.outs x.links.items y.links.items z.links.items p.links q.links);
        lost = grows (map parcel_of x.lost.items) (map parcel_of y.lost.items) (map parcel_of z.lost.items) (joined (parcel_lost (cores_of x.links.items)) p.outs)
            (joined (parcel_lost (cores_of x.links.items)) q.outs) p.lost
            (q.lost ∙ ap (λ cores. map parcel_of y.lost.items ++ joined (parcel_lost cores) q.outs) p.links.cores)
            ∙ ap (λ l. map parcel_of x.lost.items ++ l) (sym (joined-append (parcel_lost (cores_of x.links.items)) p.outs q.outs));
        posts = p.posts ++ q.posts;
        own = All-append (λ (b : Buffer). IsOf x.pool b.name) p.posts q.posts p.own (λ k d lt. let is = q.own k d lt in (is.0 ∙ p.home, omega (arith, is.1, p.number)));
        put = grows (put_list x.posted) (put_list y.posted) (put_list z.posted) p.posts q.posts p.put q.put;
        few = subst (λ n. n ≤ count_by is_frame (p.items ++ q.items)) (sym (length-append p.posts q.posts)) (frames_join p.items q.items _ _ p.few q.few);
        home = q.home ∙ p.home;
        number = q.number ∙ p.number;
        weight = λ f.
            let cores = ap (λ cores. buffers_weight f (joined (buffer_left cores) (all_of q.frees))) p.links.cores in
            let left = ap (λ bufs. buffers_weight f (joined (buffer_left (cores_of x.links.items)) bufs)) (all-append p.frees q.frees)
            ∙ ap (buffers_weight f) (joined-append (buffer_left (cores_of x.links.items)) (all_of p.frees) (all_of q.frees))
            ∙ sum_by-append (λ (b : Buffer). f b.name) (joined (buffer_left (cores_of x.links.items)) (all_of p.frees)) (joined (buffer_left (cores_of x.links.items)) (all_of q.frees)) in
            omega (arith, p.weight f, q.weight f, cores, left, sum_by-append (λ (b : Buffer). f b.name) p.posts q.posts);
      }

  pub core_stays : (x : Core U E) → CoreBecame counted name stepped advanced drained env x x
  core_stays x = record { ends = same_ends x; marked = λ e. e; ran = λ e. ran_stays x }

  pub core_joins : (x y z : Core U E) → CoreBecame counted name stepped advanced drained env x y → CoreBecame counted name stepped advanced drained env y z → CoreBecame counted name stepped advanced drained env x z
  core_joins x y z p q = record {
    ends = ends_join x y z p.ends q.ends;
    marked = λ e. q.marked (p.marked e);
    ran = λ e. ran_joins x y z p.ends.batch (p.ran (unmarked y.failed z.failed q.marked e)) (q.ran e);
  }
