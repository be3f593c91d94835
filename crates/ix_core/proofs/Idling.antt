-- A turn that answers that it was idle.
use Rattle.std.proofs.Common.{◌≡◌, ◌<◌, ◌≤◌, ◌+◌, inl, inr, ℕ, zero, suc, Bool, true, false, List, [], ◌∷◌, ◌++◌, Option, Some, None, length, map, get_or, sum_by, refl, sym, ap, subst, ◌∙◌, arith, append-nil, length-append}
use Rattle.std.specs.Prelude.{◌==◌, ◌&&◌, ◌||◌, count_by, if◌then◌else◌, is_some, nat_lt, not}
use Rattle.std.specs.List.{list_any}
use Rattle.std.proofs.lemmas.Bool.Decides.{nat_tests}
use Rattle.std.proofs.lemmas.List.{length-map}
use Rattle.std.proofs.lemmas.List.Sums.{sum_by-cons}
use Rattle.ix_mbuf.specs.Buffers.{Buffer}
use Rattle.ix_ring.specs.Ends.{known, put_list, taken}
use Rattle.ix_desk.specs.Pieces.{is_nil, joined, piece_has_work, ready}
use Rattle.ix_desk.specs.Views.{CutPiece, Group, Piece, View}
use Rattle.ix_desk.specs.Groups.{current_has_work, cut_has_work, group_has_work}
use Rattle.ix_desk.specs.Steps.{current_leaves, cut_leaves, group_leaves, leave, piece_leaves, up_to}
use Rattle.ix_run.specs.declared.actors.Turn.{Turn}
use Rattle.ix_run.specs.declared.actors.Turn.TheVariants.{Idle, Worked}
use Rattle.ix_stack.specs.declared.work.Work.{Work}
use Rattle.ix_core.specs.declared.intake.Stop.{Stop}
use Rattle.ix_core.specs.declared.intake.Stop.TheVariants.{Full, Empty, Control}
use Rattle.ix_core.specs.declared.link.Link.{Link}
use Rattle.ix_core.specs.declared.turning.Core.{Core}
use Rattle.ix_core.specs.Cores.{LeavesNothing, Ran}
use Rattle.ix_history.specs.Events.{Event, Happened, Parcel, came, gone, lent, took, worked}
use Rattle.ix_history.specs.Items.{handed_out, taken_in}
use Rattle.ix_history.specs.Run.{landed_in, shipped_in}
use Rattle.ix_history.specs.Runs.{Runs}
use Rattle.ix_core.specs.Landing.{parcel_of, ship_in}
use Rattle.ix_core.specs.Links.{HeardUp, LinkRan, LinksRan, all_out, all_put, all_taken, cores_of, is_first, is_known, parcel_lost, parcel_to}
use Rattle.ix_core.specs.Runs.{Calm, works_in}
use Rattle.ix_core.specs.Taking.{StopsAt}
use Rattle.ix_core.specs.Turned.{AreDrained, LinkWasIdle, Turned, WasIdle, answer_of}
use Rattle.ix_core.proofs.Renewals.{nothing_left}
use Rattle.ix_core.proofs.Units.{either_left, either_right, no_items}

-- ## The answer
record Idled (stop : Stop) (taken : ℕ) (quiet : Bool) : Type 0 where
  stopped : stop ≡ Empty
  none : taken ≡ 0
  quietly : quiet ≡ true

idle_case : (b c : Bool) (frames : ℕ) → (if b && c then Idle else Worked frames) ≡ Idle → (b ≡ true) × (c ≡ true)
idle_case true true frames e = (refl, refl)
idle_case true false frames e = absurd (cc)
idle_case false c frames e = absurd (cc)

is_zero : (n : ℕ) → (n == 0) ≡ true → n ≡ 0
is_zero n e = grind (arith, nat_tests)

idled : (stop : Stop) (taken : ℕ) (quiet : Bool) (frames : ℕ) → answer_of stop taken quiet frames ≡ Idle → Idled stop taken quiet
idled (Control true) taken quiet frames e = absurd (cc)
idled (Control false) taken quiet frames e = absurd (cc)
idled Full taken quiet frames e = absurd (cc)
idled Empty taken quiet frames e = let both = idle_case (taken == 0) quiet frames e in record { stopped = refl; none = is_zero taken both.0; quietly = both.1 }

record Quiet (a b c : Bool) : Type 0 where
  first : a ≡ false
  second : b ≡ false
  third : c ≡ false

quiet_parts : (a b c : Bool) → not ((a || b) || c) ≡ true → Quiet a b c
quiet_parts true b c e = absurd (cc)
quiet_parts false true c e = absurd (cc)
quiet_parts false false true e = absurd (cc)
quiet_parts false false false e = record { first = refl; second = refl; third = refl }

not_more : (a b : ℕ) → nat_lt a b ≡ false → b ≤ a
not_more a b e = grind (arith, nat_tests)

-- ## Lists that grew nowhere
sums_grow : {X : Type 0} (v w : X → ℕ) (xs ys : List X) → length ys ≡ length xs → ((i : ℕ) (d : X) → i < length xs → v (get_or xs i d) ≤ w (get_or ys i d)) → sum_by v xs ≤ sum_by w ys
sums_grow v w [] ys len each = omega arith
sums_grow v w (x ∷ xs) [] len each = absurd (omega (arith, len))
sums_grow v w (x ∷ xs) (y ∷ ys) len each =
    omega (arith, each 0 x (omega arith), sums_grow v w xs ys (omega (arith, len)) (λ i d lt. each (suc i) d (omega arith)), sum_by-cons v x xs, sum_by-cons w y ys)

none_grew : {X : Type 0} (v w : X → ℕ) (xs ys : List X) → length ys ≡ length xs → ((i : ℕ) (d : X) → i < length xs → v (get_or xs i d) ≤ w (get_or ys i d)) → sum_by w ys ≤ sum_by v xs
    → (i : ℕ) (d : X) → i < length xs → w (get_or ys i d) ≤ v (get_or xs i d)
none_grew v w [] ys len each le i d lt = absurd (omega arith)
none_grew v w (x ∷ xs) [] len each le i d lt = absurd (omega (arith, len))
none_grew v w (x ∷ xs) (y ∷ ys) len each le zero d lt =
    omega (arith, le, sums_grow v w xs ys (omega (arith, len)) (λ i e l. each (suc i) e (omega arith)), sum_by-cons v x xs, sum_by-cons w y ys)
none_grew v w (x ∷ xs) (y ∷ ys) len each le (suc i) d lt =
    none_grew v w xs ys (omega (arith, len)) (λ j e l. each (suc j) e (omega arith)) (omega (arith, le, each 0 x (omega arith), sum_by-cons v x xs, sum_by-cons w y ys)) i d (omega arith)

-- ## Desks without work leave the whole bound of a batch
nothing_up_to : (counted : Work → Bool) (n : ℕ) (xs : List Work) → is_nil xs ≡ true → count_by counted (up_to counted n xs) ≡ 0
nothing_up_to counted zero xs e = refl
nothing_up_to counted (suc n) [] e = refl
nothing_up_to counted (suc n) (x ∷ xs) e = absurd (cc)

is_nil_so : (b : Bool) → not b ≡ false → b ≡ true
is_nil_so true e = refl
is_nil_so false e = absurd (cc)

piece_case : (counted : Work → Bool) (b : Bool) (n : ℕ) (xs : List Work) → (b && not (is_nil xs)) ≡ false → count_by counted (if b then up_to counted n xs else []) ≡ 0
piece_case counted true n xs e = nothing_up_to counted n xs (is_nil_so (is_nil xs) e)
piece_case counted false n xs e = refl

module _ {U : Type 0} (counted : Work → Bool) where
  piece_rests : (n : ℕ) (p : Piece U Work) → piece_has_work p ≡ false → piece_leaves counted n p ≡ n
  piece_rests n p e = omega (arith, piece_case counted (is_some p.unit) n (ready p) e)

  cuts_rest : (n : ℕ) (cs : List (CutPiece U Work)) → list_any cut_has_work cs ≡ false → leave (cut_leaves counted) n cs ≡ n
  cuts_rest n [] e = refl
  cuts_rest n (c ∷ cs) e = rw (piece_rests n c.piece (either_left _ _ e)) (cuts_rest n cs (either_right (cut_has_work c) _ e))

  current_rests : (n : ℕ) (o : Option (Piece U Work)) → current_has_work o ≡ false → current_leaves counted n o ≡ n
  current_rests n None e = refl
  current_rests n (Some p) e = piece_rests n p e

  group_rests : (n : ℕ) (g : Group U Work) → group_has_work g ≡ false → group_leaves counted n g ≡ n
  group_rests n g e = rw (cuts_rest n g.cut (either_left _ _ e)) (current_rests n g.current (either_right (list_any cut_has_work g.cut) _ e))

  groups_rest : (n : ℕ) (gs : List (Group U Work)) → list_any group_has_work gs ≡ false → leave (group_leaves counted) n gs ≡ n
  groups_rest n [] e = refl
  groups_rest n (g ∷ gs) e = rw (group_rests n g (either_left _ _ e)) (groups_rest n gs (either_right (group_has_work g) _ e))

-- ## One link
module _ {U E : Type 0} where
  link_idle : (cores : List ℕ) (i : ℕ) (ins : List _) (bufs : List Buffer) (outs : List _) (x y : Link U E) → HeardUp x y → LinkRan cores i ins bufs outs x y
      → length (taken y.take) ≤ length (taken x.take) → length (put_list y.put) + length y.waiting.items ≤ length (put_list x.put) → LinkWasIdle x y
  link_idle cores i ins bufs outs x y h r few out =
      let quiet : h.messages ≡ [] = no_items h.messages (omega (arith, few, ap length h.heard, length-append (taken x.take) h.messages)) in
      let none : r.puts ≡ [] = no_items r.puts (omega (arith, out, ap length r.grown, length-append (put_list x.put) r.puts)) in
      record {
        heard = h.heard ∙ ap (λ l. taken x.take ++ l) quiet ∙ append-nil _;
        none = elim (h.stops) [ inl full ↦ absurd (let empty : length h.messages ≡ 0 = ap length quiet in omega (arith, full, empty)) | inr less ↦ less.1 ];
        put = r.grown ∙ ap (λ l. put_list x.put ++ l) none ∙ append-nil _;
        waits = no_items y.waiting.items (omega (arith, out, ap length r.grown, length-append (put_list x.put) r.puts));
      }

-- ## Flow groups that left
record FirstAt (cores : List ℕ) (core : ℕ) : Type 0 where
  place : ℕ
  within : place < length cores
  first : is_first cores place core ≡ true

first_case : (c : ℕ) (cores : List ℕ) (core : ℕ) (b : Bool) → (c == core) ≡ b → (is_known cores core ≡ true → FirstAt cores core) → (b || is_known cores core) ≡ true → FirstAt (c ∷ cores) core
first_case c cores core true is rest e = record { place = 0; within = omega arith; first = is }
first_case c cores core false is rest e =
    let found = rest e in
    record { place = suc found.place; within = omega (arith, found.within); first = ap (λ b. not b && is_first cores found.place core) is ∙ found.first }

first_at : (cores : List ℕ) (core : ℕ) → is_known cores core ≡ true → FirstAt cores core
first_at [] core e = absurd (cc)
first_at (c ∷ cores) core e = first_case c cores core (c == core) refl (first_at cores core) e

some_of : {X : Type 0} (xs : List X) → 0 < length xs → X
some_of [] lt = absurd (omega arith)
some_of (x ∷ xs) lt = x

module _ {U E : Type 0} where
  none_sent : (cores : List ℕ) (i : ℕ) (ins : List (ℕ × Parcel U Work)) (bufs : List Buffer) (outs : List (Parcel U Work)) (x y : Link U E) → LinkRan cores i ins bufs outs x y → LinkWasIdle x y → joined (parcel_to cores i) outs ≡ []
  none_sent cores i ins bufs outs x y r idle =
      let sizes : length (put_list y.put) + length y.waiting.items ≡ length (put_list x.put) + (length x.waiting.items + length r.sent) =
      omega (arith, ap length r.put, length-append (put_list y.put) y.waiting.items, length-append (put_list x.put) (x.waiting.items ++ r.sent), length-append x.waiting.items r.sent) in
      let none : r.sent ≡ [] = no_items r.sent (omega (arith, sizes, ap length idle.put, ap length idle.waits)) in
      sym r.shipments ∙ ap (λ ms. map parcel_of (joined ship_in ms)) none

  -- where nothing was put on the mesh and none left for a core that isn't there, none left
  none_left : (ins : List (ℕ × Parcel U Work)) (bufs : List Buffer) (outs : List (Parcel U Work)) (old new : List (Link U E)) → LinksRan ins bufs outs old new
      → ((i : ℕ) (d : Link U E) → i < length old → LinkWasIdle (get_or old i d) (get_or new i d)) → joined (parcel_lost (cores_of old)) outs ≡ [] → outs ≡ []
  none_left ins bufs [] old new ran idle lost = refl
  none_left ins bufs (s ∷ outs) old new ran idle lost = absurd (here (is_known (cores_of old) s.to) refl) where
    here : (b : Bool) → is_known (cores_of old) s.to ≡ b → ⊥
    here false is =
        let kept : joined (parcel_lost (cores_of old)) (s ∷ outs) ≡ s ∷ joined (parcel_lost (cores_of old)) outs = ap (λ b. (if b then [] else s ∷ []) ++ joined (parcel_lost (cores_of old)) outs) is in
        cc
    here true is =
        let place = first_at (cores_of old) s.to is in
        let within : place.place < length old = omega (arith, place.within, length-map old (λ (l : Link U E). l.core.0)) in
        let d = some_of old (omega (arith, within)) in
        let none = none_sent (cores_of old) place.place ins bufs (s ∷ outs) (get_or old place.place d) (get_or new place.place d) (ran.each place.place d within) (idle place.place d within) in
        let sent : joined (parcel_to (cores_of old) place.place) (s ∷ outs) ≡ s ∷ joined (parcel_to (cores_of old) place.place) outs = ap (λ b. (if b then s ∷ [] else []) ++ joined (parcel_to (cores_of old) place.place) outs) place.first in
        cc

module _ {U E : Type 0} (counted : Work → Bool) (name : Work → ℕ) (stepped : U → List (ℕ × ℕ)) (advanced : U → E → ℕ → List Work → U → Type 0) (drained : U → List Buffer → U → Type 0) (env : E) where
  -- desks to which nothing happened
  still : (x y : View U Work) → Calm counted name stepped advanced drained env x y [] [] [] [] → y ≡ x
  still x y calm = none calm.run.events calm.calm calm.run.runs calm.run.took_all calm.run.landed_all calm.run.handed_all calm.run.shipped_all where
    none : (es : List (Event U Work (List Buffer))) → works_in es ≡ [] → Runs (Happened counted name stepped advanced drained env) x es y → taken_in es ≡ [] → landed_in es ≡ [] → handed_out es ≡ [] → shipped_in es ≡ [] → y ≡ x
    none [] w r t l h s = r
    none (took it ∷ es) w r t l h s = absurd (cc)
    none (came c p ∷ es) w r t l h s = absurd (cc)
    none (worked max ∷ es) w r t l h s = absurd (cc)
    none (gone p ∷ es) w r t l h s = absurd (cc)
    none (lent g u out v ∷ es) w r t l h s = absurd (cc)

  -- A core that was idle and kept no flow group for a core that isn't there has handed out all that its flow groups don't need.
  pub idle_drained : (x y : Core U E) (empty : View U Work) (ins : List (ℕ × Parcel U Work)) (bufs : List Buffer) (outs : List (Parcel U Work)) → LinksRan ins bufs outs x.links.items y.links.items
      → map parcel_of y.lost.items ≡ map parcel_of x.lost.items ++ joined (parcel_lost (cores_of x.links.items)) outs → WasIdle x y
      → Calm counted name stepped advanced drained env empty y.desks [] [] [] outs → AreDrained drained empty → y.lost.items ≡ x.lost.items → AreDrained drained y.desks
  idle_drained x y empty ins bufs outs links lost idle leaves clean same =
      let none_lost : joined (parcel_lost (cores_of x.links.items)) outs ≡ [] = nothing_left (map parcel_of x.lost.items) (joined (parcel_lost (cores_of x.links.items)) outs) (sym (ap (λ l. map parcel_of l) same) ∙ lost) in
      let none : outs ≡ [] = none_left ins bufs outs x.links.items y.links.items links idle.links none_lost in
      let stays : y.desks ≡ empty = still empty y.desks (subst (λ l. Calm counted name stepped advanced drained env empty y.desks [] [] [] l) none leaves) in
      subst (λ v. AreDrained drained v) (sym stays) clean

module _ {U E : Type 0} (counted : Work → Bool) (name : Work → ℕ) (stepped : U → List (ℕ × ℕ)) (advanced : U → E → ℕ → List Work → U → Type 0) (drained : U → List Buffer → U → Type 0) (env : E) where
  pub idle_so : (turn : Turn) (x y : Core U E) → 1 ≤ x.batch → Turned counted name stepped advanced drained env turn x y → Ran counted name stepped advanced drained env x y → LeavesNothing y
      → turn ≡ Idle → WasIdle x y
  idle_so turn x y some t r n is =
      let i = idled t.stop t.count _ t.frames (sym t.answer ∙ is) in
      let q = quiet_parts _ _ _ i.quietly in
      let stops = subst (λ s. StopsAt x.batch s t.takes.frames t.takes.control (known y.items)) i.stopped t.takes.stops in
      let frames : t.takes.frames ≡ [] = no_items t.takes.frames (omega (arith, t.takes.number, i.none)) in
      let heard : all_taken y.links.items ≤ all_taken x.links.items = not_more _ _ q.first in
      let sent : all_out y.links.items ≤ all_put x.links.items = not_more _ _ q.third in
      let whole : leave (group_leaves counted) x.batch t.ready.groups ≡ x.batch = groups_rest counted x.batch t.ready.groups q.second in
      record {
        items = t.takes.took ∙ ap (λ l. taken x.items ++ (l ++ t.takes.control)) frames ∙ ap (λ l. taken x.items ++ l) stops.1.0 ∙ append-nil _;
        none = stops.1.1;
        links = λ k d lt.
            link_idle (cores_of x.links.items) k r.ins _ r.outs (get_or x.links.items k d) (get_or y.links.items k d) (t.hears k d lt) (r.links.each k d lt)
            (none_grew (λ (l : Link U E). length (taken l.take)) (λ (l : Link U E). length (taken l.take)) x.links.items y.links.items r.links.count (λ j e l. grew_taken (t.hears j e l)) heard k d lt)
            (none_grew (λ (l : Link U E). length (put_list l.put)) (λ (l : Link U E). length (put_list l.put) + length l.waiting.items) x.links.items y.links.items r.links.count (λ j e l. grew_put (r.links.each j e l)) sent k d lt);
        desks = record { work = t.rest (omega (arith, t.number, whole, some)); done = n.units };
      } where
        grew_taken : {a b : Link U E} → HeardUp a b → length (taken a.take) ≤ length (taken b.take)
        grew_taken {a} {b} h = omega (arith, ap length h.heard, length-append (taken a.take) h.messages)

        grew_put : {a b : Link U E} {cores : List ℕ} {i : ℕ} {ins : List _} {bufs : List Buffer} {outs : List _} → LinkRan cores i ins bufs outs a b → length (put_list a.put) ≤ length (put_list b.put) + length b.waiting.items
        grew_put {a} {b} r = omega (arith, ap length r.grown, length-append (put_list a.put) r.puts)
