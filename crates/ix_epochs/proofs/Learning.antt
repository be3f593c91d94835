-- What a meeting tells the ends of rings is nothing that turns do.
use Rattle.std.proofs.Common.{◌≡◌, ◌++◌, ℕ, Bool, List, [], map, get_or, sum_by, refl, sym, ap, subst, ◌∙◌, append-nil, arith}
use Rattle.std.proofs.lemmas.List.Elements.{All-nil}
use Rattle.ix_mbuf.specs.Buffers.{Buffer, buffers_weight}
use Rattle.ix_mbuf.specs.declared.name.Name.{Name}
use Rattle.ix_ring.specs.Ends.{put_list, taken}
use Rattle.ix_desk.specs.Pieces.{joined}
use Rattle.ix_desk.specs.Views.{View}
use Rattle.ix_history.specs.Join.{IsIdle}
use Rattle.ix_stack.specs.declared.work.Work.{Work}
use Rattle.ix_core.specs.declared.link.Link.{Link}
use Rattle.ix_core.specs.declared.turning.Core.{Core}
use Rattle.ix_core.specs.Cores.{CoreBecame}
use Rattle.ix_core.specs.Homing.{EachIs}
use Rattle.ix_core.specs.Landing.{home_in, parcel_of}
use Rattle.ix_core.specs.Links.{LinkRan, LinksRan, cores_of, homes_weight}
use Rattle.ix_core.specs.Meeting.{CoreLearned, CoresLearned, LinkLearned}
use Rattle.ix_core.specs.Renewing.{IsOf}
use Rattle.ix_core.specs.Runs.{Bounded, bounded-stays}
use Rattle.ix_epochs.specs.Rest.{AllRest, CoreRests}
use Rattle.ix_epochs.proofs.Places.{maps_same, sums_same}

module _ {U E : Type 0} where
  link_learned : (cores : List ℕ) (place : ℕ) (x y : Link U E) → LinkLearned x y → LinkRan cores place [] [] [] x y
  link_learned cores place x y so =
      let ships : y.ships.items ≡ x.ships.items = ap (λ (l : Link U E). l.ships.items) so.rest in
      let waiting : y.waiting.items ≡ x.waiting.items = ap (λ (l : Link U E). l.waiting.items) so.rest in
      record {
        messages = [];
        landed = [];
        sent = [];
        heard = so.take.took ∙ sym (append-nil _);
        ships = append-nil _ ∙ sym ships;
        landings = refl;
        puts = [];
        grown = so.put.puts ∙ sym (append-nil _);
        put = ap (λ l. l ++ y.waiting.items) so.put.puts ∙ ap (λ l. put_list x.put ++ l) (waiting ∙ sym (append-nil x.waiting.items));
        shipments = refl;
        homes = refl;
      }

  links_learned : (x y : Core U E) → CoreLearned x y → LinksRan [] [] [] x.links.items y.links.items
  links_learned x y so = record {
    cores = maps_same (λ (l : Link U E). l.core.0) x.links.items y.links.items so.count (λ i d. ap (λ (l : Link U E). l.core.0) (so.links i d).rest);
    count = so.count;
    each = λ i d lt. link_learned (cores_of x.links.items) i (get_or x.links.items i d) (get_or y.links.items i d) (so.links i d);
    none = λ i le. refl;
  }

  homes_learned : (f : Name → ℕ) (x y : Core U E) → CoreLearned x y → homes_weight f y.links.items ≡ homes_weight f x.links.items
  homes_learned f x y so =
      sums_same (λ (l : Link U E). buffers_weight f (joined home_in (taken l.take))) x.links.items y.links.items so.count (λ i d. ap (λ l. buffers_weight f (joined home_in l)) (so.links i d).take.took)

  -- ## Rest stays
  pub rest_learned : (drained : U → List Buffer → U → Type 0) (x y : Core U E) → CoreLearned x y → CoreRests drained x → CoreRests drained y
  rest_learned drained x y so q =
      let desks : y.desks ≡ x.desks = ap (λ (c : Core U E). c.desks) so.rest in
      let pool : y.pool ≡ x.pool = ap (λ (c : Core U E). c.pool) so.rest in
      let returns : y.returns ≡ x.returns = ap (λ (c : Core U E). c.returns) so.rest in
      record {
        found = ap (λ (c : Core U E). c.failed) so.rest ∙ q.found;
        idle = subst (λ (v : View U Work). IsIdle v) (sym desks) q.idle;
        clean = rw desks q.clean;
        keeps = record {
          came = ap (λ (c : Core U E). c.came.items) so.rest ∙ q.keeps.came;
          lost = ap (λ (c : Core U E). c.lost.items) so.rest ∙ q.keeps.lost;
          links = λ p e lt.
              let was = q.keeps.links p e (omega (arith, so.count, lt)) in
              record {
                ships = ap (λ (l : Link U E). l.ships.items) (so.links p e).rest ∙ was.ships;
                waits = ap (λ (l : Link U E). l.waiting.items) (so.links p e).rest ∙ was.waits;
              };
        };
        aside = rw (pool, returns) q.aside;
      }

  pub all_rest_learned : (drained : U → List Buffer → U → Type 0) (xs ys : List (Core U E)) → CoresLearned xs ys → AllRest drained xs → AllRest drained ys
  all_rest_learned drained xs ys so q c d lt = rest_learned drained (get_or xs c d) (get_or ys c d) (so.each c d) (q c d (omega (arith, so.count, lt)))

module _ {U E : Type 0} (counted : Work → Bool) (name : Work → ℕ) (stepped : U → List (ℕ × ℕ)) (advanced : U → E → ℕ → List Work → U → Type 0) (drained : U → List Buffer → U → Type 0) (env : E) where
  -- ## A core that learned
  pub core_learned : (x y : Core U E) → CoreLearned x y → CoreBecame counted name stepped advanced drained env x y
  core_learned x y so =
      let desks : y.desks ≡ x.desks = ap (λ (c : Core U E). c.desks) so.rest in
      let stays = subst (λ (v : View U Work). Bounded counted name stepped advanced drained env x.batch x.desks v [] [] [] []) (sym desks) (bounded-stays counted name stepped advanced drained env x.batch x.desks) in
      record {
        ends = record {
          home = ap (λ (c : Core U E). c.pool.home) so.rest;
          batch = ap (λ (c : Core U E). c.batch) so.rest;
          items = so.items.ring;
          posted = so.posted.ring;
          links = record {
            count = so.count;
            each = λ i d.
                let one = so.links i d in
                record { core = ap (λ (l : Link U E). l.core) one.rest; take = one.take.ring; put = one.put.ring };
          };
        };
        marked = λ e. ap (λ (c : Core U E). c.failed) so.rest ∙ e;
        ran = λ found. record {
          items = [];
          dealt = [];
          took = so.items.took ∙ sym (append-nil _);
          queue = append-nil _ ∙ sym (ap (λ (c : Core U E). c.came.items) so.rest);
          ins = [];
          frees = [];
          outs = [];
          run = stays.run;
          bounds = stays.works;
          links = links_learned x y so;
          lost = ap (λ (c : Core U E). map parcel_of c.lost.items) so.rest ∙ sym (append-nil _);
          posts = [];
          own = All-nil (λ (b : Buffer). IsOf x.pool b.name);
          put = so.posted.puts ∙ sym (append-nil _);
          few = omega arith;
          home = ap (λ (c : Core U E). c.pool.home) so.rest;
          number = ap (λ (c : Core U E). c.pool.n) so.rest;
          weight = λ f.
              let free = ap (λ (c : Core U E). sum_by f c.pool.free) so.rest in
              let returns = ap (λ (c : Core U E). buffers_weight f c.returns.items) so.rest in
              omega (arith, free, returns, homes_learned f x y so);
        };
      }

  pub cores_learned : (xs ys : List (Core U E)) → CoresLearned xs ys → EachIs (CoreBecame counted name stepped advanced drained env) xs ys
  cores_learned xs ys so = record { count = so.count; each = λ c d lt. core_learned (get_or xs c d) (get_or ys c d) (so.each c d) }
