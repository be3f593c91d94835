-- Flow groups that are kept aside of links, to the end of a turn.
use Rattle.std.proofs.Common.{◌≡◌, ◌<◌, ℕ, Bool, List, [], ◌∷◌, ◌++◌, map, length, length-append, get_or, refl, sym, ap, subst, ◌∙◌, append-nil, arith}
use Rattle.ix_mbuf.specs.Buffers.{Buffer}
use Rattle.ix_ring.specs.Ends.{taken}
use Rattle.ix_desk.specs.Pieces.{joined}
use Rattle.ix_desk.specs.Views.{View}
use Rattle.ix_history.specs.Events.{Parcel, RingItem}
use Rattle.ix_history.specs.Run.{Run}
use Rattle.ix_stack.specs.declared.work.Work.{Work}
use Rattle.ix_core.specs.declared.link.Link.{Link}
use Rattle.ix_core.specs.Landing.{FirstUnawaited, ship_in}
use Rattle.ix_core.specs.Links.{AllUnawaited, LinkRan, LinksRan, cores_of, takes_of}
use Rattle.ix_core.specs.Runs.{Calm}
use Rattle.ix_core.proofs.Awaited.{run_unawaited}
use Rattle.ix_core.proofs.Turns.{take_at}
use Rattle.ix_core.proofs.Units.{no_items}

map_none : {X Y : Type 0} (f : X → Y) (xs : List X) → map f xs ≡ [] → xs ≡ []
map_none f [] e = refl
map_none f (x ∷ xs) e = absurd (cc)

module _ {U E : Type 0} where
  ship_same : (cores : List ℕ) (i : ℕ) (bufs : List Buffer) (outs : List (Parcel U Work)) (x y : Link U E) → LinkRan cores i [] bufs outs x y → y.take ≡ x.take → y.ships.items ≡ x.ships.items
  ship_same cores i bufs outs x y r e =
      let count : length r.messages ≡ 0 = omega (arith, ap length r.heard, length-append (taken x.take) r.messages, ap (λ (t : _). length (taken t)) e) in
      let quiet : r.messages ≡ [] = no_items r.messages count in
      let none : r.landed ≡ [] = map_none _ r.landed r.landings in
      ap (λ l. l ++ y.ships.items) (sym none) ∙ (sym r.ships ∙ (ap (λ m. x.ships.items ++ joined ship_in m) quiet ∙ append-nil x.ships.items))

  -- where nothing was taken and nothing landed, the same is kept
  ships_same : (bufs : List Buffer) (outs : List (Parcel U Work)) (a b : List (Link U E)) → LinksRan [] bufs outs a b → takes_of b ≡ takes_of a
      → (i : ℕ) (d : Link U E) → i < length a → (get_or b i d).ships.items ≡ (get_or a i d).ships.items
  ships_same bufs outs a b r same i d lt = ship_same (cores_of a) i bufs outs (get_or a i d) (get_or b i d) (r.each i d lt) (take_at b a i d same)

module _ {U E : Type 0} (counted : Work → Bool) (name : Work → ℕ) (stepped : U → List (ℕ × ℕ)) (advanced : U → E → ℕ → List Work → U → Type 0) (drained : U → List Buffer → U → Type 0) (env : E) where
  pub aside_stays : (d1 d2 d3 d4 d5 : View U Work) (items : List (RingItem Work)) (frees : List (List Buffer)) (outs : List (Parcel U Work)) (bufs : List Buffer) (a b c d : List (Link U E))
      → Calm counted name stepped advanced drained env d1 d2 items [] [] [] → Run counted name stepped advanced drained env d2 d3 [] [] [] []
      → Calm counted name stepped advanced drained env d3 d4 [] [] frees [] → Calm counted name stepped advanced drained env d4 d5 [] [] [] outs
      → LinksRan [] bufs [] a b → LinksRan [] [] outs b c → LinksRan [] [] [] c d → takes_of b ≡ takes_of a → takes_of c ≡ takes_of b → takes_of d ≡ takes_of c
      → AllUnawaited d1 a → AllUnawaited d5 d
  aside_stays d1 d2 d3 d4 d5 items frees outs bufs a b c d deal work drain leave ab bc cd tab tbc tcd so i e lt =
      let within : i < length a = omega (arith, lt, ab.count, bc.count, cd.count) in
      let kept : (get_or d i e).ships.items ≡ (get_or a i e).ships.items =
      ships_same [] [] c d cd tcd i e (omega (arith, within, ab.count, bc.count)) ∙ (ships_same [] outs b c bc tbc i e (omega (arith, within, ab.count)) ∙ ships_same bufs [] a b ab tab i e within) in
      let ships = (get_or a i e).ships.items in
      let one = run_unawaited counted name stepped advanced drained env d1 d2 items [] [] [] ships deal.run (so i e within) in
      let two = run_unawaited counted name stepped advanced drained env d2 d3 [] [] [] [] ships work one in
      let three = run_unawaited counted name stepped advanced drained env d3 d4 [] [] frees [] ships drain.run two in
      let four = run_unawaited counted name stepped advanced drained env d4 d5 [] [] [] outs ships leave.run three in
      subst (λ (l : List _). FirstUnawaited d5 l) (sym kept) four
