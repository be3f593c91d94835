-- Links whose turns come one after the other.
use Rattle.std.proofs.Common.{ℕ, List, [], ◌++◌, map, get_or, refl, sym, ap, subst, ◌∙◌, arith, append-nil}
use Rattle.std.proofs.lemmas.List.{map-append}
use Rattle.ix_mbuf.specs.Buffers.{Buffer}
use Rattle.ix_ring.specs.Ends.{put_list, taken}
use Rattle.ix_desk.specs.Pieces.{joined}
use Rattle.ix_stack.specs.declared.work.Work.{Work}
use Rattle.ix_core.specs.declared.link.Link.{Link}
use Rattle.ix_history.specs.Events.{Parcel}
use Rattle.ix_core.specs.Runs.{both, joined-append}
use Rattle.ix_core.specs.Landing.{home_in, parcel_of, ship_in}
use Rattle.ix_core.specs.Lists.{chain, grows, puts}
use Rattle.ix_core.specs.Links.{LinkRan, LinksRan, SameLink, SameLinks, buffer_to, cores_of, from_place, parcel_to}

module _ {U E : Type 0} where
  pub same_link : (x : Link U E) → SameLink x x
  same_link x = record { core = refl; take = refl; put = (refl, refl) }

  pub same_links : (links : List (Link U E)) → SameLinks links links
  same_links links = record { count = refl; each = λ i d. same_link (get_or links i d) }

  pub same_links_join : (x y z : List (Link U E)) → SameLinks x y → SameLinks y z → SameLinks x z
  same_links_join x y z p q = record {
    count = q.count ∙ p.count;
    each = λ i d. record {
      core = (q.each i d).core ∙ (p.each i d).core;
      take = (q.each i d).take ∙ (p.each i d).take;
      put = ((q.each i d).put.0 ∙ (p.each i d).put.0, (q.each i d).put.1 ∙ (p.each i d).put.1);
    };
  }

  pub link_stays : (cores : List ℕ) (place : ℕ) (x : Link U E) → LinkRan cores place [] [] [] x x
  link_stays cores place x = record {
    messages = [];
    landed = [];
    sent = [];
    heard = sym (append-nil _);
    ships = append-nil _;
    landings = refl;
    puts = [];
    grown = sym (append-nil _);
    put = ap (λ l. put_list x.put ++ l) (sym (append-nil x.waiting.items));
    shipments = refl;
    homes = refl;
  }

  pub link_joins : (cores : List ℕ) (place : ℕ) (i j : List (ℕ × Parcel U Work)) (b c : List Buffer) (o q : List (Parcel U Work)) (x y z : Link U E)
      → LinkRan cores place i b o x y → LinkRan cores place j c q y z → LinkRan cores place (i ++ j) (b ++ c) (o ++ q) x z
  link_joins cores place i j b c o q x y z f s = record {
    messages = f.messages ++ s.messages;
    landed = f.landed ++ s.landed;
    sent = f.sent ++ s.sent;
    heard = grows (taken x.take) (taken y.take) (taken z.take) f.messages s.messages f.heard s.heard;
    ships = ap (λ l. x.ships.items ++ l) (joined-append ship_in f.messages s.messages)
        ∙ chain x.ships.items y.ships.items z.ships.items (joined ship_in f.messages) (joined ship_in s.messages) f.landed s.landed f.ships s.ships;
    landings = map-append parcel_of f.landed s.landed ∙ both _ _ _ _ f.landings s.landings ∙ sym (joined-append (from_place place) i j);
    puts = f.puts ++ s.puts;
    grown = grows (put_list x.put) (put_list y.put) (put_list z.put) f.puts s.puts f.grown s.grown;
    put = puts (put_list x.put) (put_list y.put) (put_list z.put) x.waiting.items y.waiting.items z.waiting.items f.sent s.sent f.put s.put;
    shipments = ap (map parcel_of) (joined-append ship_in f.sent s.sent) ∙ map-append parcel_of (joined ship_in f.sent) (joined ship_in s.sent)
        ∙ both _ _ _ _ f.shipments s.shipments ∙ sym (joined-append (parcel_to cores place) o q);
    homes = joined-append home_in f.sent s.sent ∙ both _ _ _ _ f.homes s.homes ∙ sym (joined-append (buffer_to cores place) b c);
  }

  pub links_stay : (links : List (Link U E)) → LinksRan [] [] [] links links
  links_stay links = record { cores = refl; count = refl; each = λ place d within. link_stays (cores_of links) place (get_or links place d); none = λ place beyond. refl }

  pub links_join : (i j : List (ℕ × Parcel U Work)) (b c : List Buffer) (o q : List (Parcel U Work)) (x y z : List (Link U E))
      → LinksRan i b o x y → LinksRan j c q y z → LinksRan (i ++ j) (b ++ c) (o ++ q) x z
  links_join i j b c o q x y z f s = record {
    cores = s.cores ∙ f.cores;
    count = s.count ∙ f.count;
    each = λ place d within.
        link_joins (cores_of x) place i j b c o q (get_or x place d) (get_or y place d) (get_or z place d) (f.each place d within)
        (subst (λ cores. LinkRan cores place j c q (get_or y place d) (get_or z place d)) f.cores (s.each place d (omega (arith, f.count, within))));
    none = λ place beyond. joined-append (from_place place) i j ∙ both _ [] _ [] (f.none place beyond) (s.none place (omega (arith, f.count, beyond)));
  }
