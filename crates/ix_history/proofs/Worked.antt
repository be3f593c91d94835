-- The worked plays, event by event.
use Rattle.std.proofs.Common.{◌≡◌, ℕ, zero, suc, ◌<◌, Bool, true, false, List, [], ◌∷◌, get_or, length, replicate, refl, arith}
use Rattle.std.specs.Prelude.{Some, None, map, ◌==◌, if◌then◌else◌}
use Rattle.std.specs.List.{list_any}
use Rattle.std.proofs.lemmas.Bool.Decides.{nat_tests}
use Rattle.ix_desk.specs.Views.{Piece, CutPiece, Group, View}
use Rattle.ix_desk.specs.Groups.{empty, at_home, done_of, taken, group_has_work}
use Rattle.ix_desk.specs.declared.unit.DeskItem.TheVariants.{Tag}
use Rattle.ix_desk.specs.Desks.{group_at, with_group}
use Rattle.ix_desk.specs.Steps.{EachWorked, group_leaves, GroupWorked, PieceWorked}
use Rattle.ix_order.specs.Wire.{put_on}
use Rattle.ix_history.specs.Runs.{Runs}
use Rattle.ix_history.specs.Events.{Parcel, Event, gone, Happened}
use Rattle.ix_history.specs.Items.{told, taken_in, gone_to, came_from}
use Rattle.ix_history.specs.Join.{In, IsIdle, Played}
use Rattle.ix_history.specs.Worked.{Log, all_count, own_name, own_steps, Anyhow, Nothing, table, new_unit, at_first, at_second, before, behind_the_tag, moved, histories_behind, after_behind, two_moves, there, back, histories_two, after_two, WorkedPlays}
use Rattle.ix_history.proofs.Members.{landed-to}

abbrev Work : ℕ → ℕ → ℕ → Group Log ℕ → Group Log ℕ → Type 0
Work env here b x y = GroupWorked all_count own_name own_steps Anyhow env here b x y

abbrev EachWork : ℕ → ℕ → ℕ → List (Group Log ℕ) → List (Group Log ℕ) → Type 0
EachWork env here b xs ys = EachWorked (group_leaves {U = Log} all_count) (Work env here) b xs ys

abbrev Leads : ℕ → View Log ℕ → List (Event Log ℕ ℕ) → View Log ℕ → Type 0
Leads env x es y = Runs (Happened all_count own_name own_steps Anyhow Nothing env) x es y

abbrev home : Group Log ℕ
home = at_home []

abbrev bare : Group Log ℕ
bare = empty

abbrev has : Group Log ℕ → Bool
has g = group_has_work g

-- nothing is done at groups that hold nothing
empties : (n env here budget : ℕ) → EachWork env here budget (replicate n empty) (replicate n empty)
empties zero env here budget = tt
empties (suc n) env here budget = (record { cut = tt; current = tt; early = refl; arrived = refl; last = refl }, empties n env here budget)

-- nor at those where nothing waits
abbrev home_piece : Piece Log ℕ
home_piece = record { tenure = 0; tagged = false; unit = Some []; remote = []; local = []; behind = [] }

home-rests : (env here budget : ℕ) → PieceWorked all_count own_name own_steps Anyhow env here budget home_piece home_piece
home-rests env here zero = record { tenure = refl; tagged = refl; behind = refl; waited = refl; unit = refl; resting = λ e. refl }
home-rests env here (suc budget) = record { tenure = refl; tagged = refl; behind = refl; waited = refl; unit = refl; resting = λ e. refl }

homes : (n env here budget : ℕ) → EachWork env here budget (replicate n (at_home [])) (replicate n (at_home []))
homes zero env here budget = tt
homes (suc n) env here budget =
    (record { cut = tt; current = home-rests env here budget; early = refl; arrived = refl; last = refl }, homes n env here (group_leaves all_count budget home))

-- a group with one open piece
abbrev with_piece : Piece Log ℕ → List ℕ → ℕ → Group Log ℕ
with_piece p arrived last = record { cut = []; current = Some p; early = []; arrived = arrived; last = last }

abbrev piece_of : ℕ → Bool → List ℕ → List ℕ → Piece Log ℕ
piece_of k tagged local behind = record { tenure = k; tagged = tagged; unit = None; remote = []; local = local; behind = behind }

abbrev unit_at : ℕ → Bool → Log → List ℕ → List ℕ → List ℕ → Piece Log ℕ
unit_at k tagged u remote local behind = record { tenure = k; tagged = tagged; unit = Some u; remote = remote; local = local; behind = behind }

first-behind : (env : ℕ) → Leads env (before 0) (histories_behind 0) (after_behind 0)
first-behind env =
    let cutp : CutPiece Log ℕ = record { to = 1; piece = unit_at 0 true ((0, 0) ∷ []) [] [] (2 ∷ []) } in
    let cut : Group Log ℕ = record { cut = cutp ∷ []; current = None; early = []; arrived = []; last = 0 } in (
      at_first (with_piece (unit_at 0 false [] [] (0 ∷ []) []) [] 0),
      (refl, refl),
      (
        at_first (with_piece (unit_at 0 true [] [] (0 ∷ []) []) [] 0),
        (refl, refl),
        (
          at_first (with_piece (unit_at 0 true ((0, 0) ∷ []) [] [] []) [] 0),
          record {
            core = refl;
            failed = refl;
            groups = (
              record {
                cut = tt;
                current = record { tenure = refl; tagged = refl; behind = refl; waited = refl; unit = (refl, tt); resting = λ e. refl };
                early = refl;
                arrived = refl;
                last = refl;
              },
              homes 511 env 0 8,
            );
          },
          (
            at_first (with_piece (unit_at 0 true ((0, 0) ∷ []) [] [] (2 ∷ [])) [] 0),
            (refl, refl),
            (
              at_first cut,
              (refl, refl),
              (
                at_first cut,
                refl,
                (
                  after_behind 0,
                  record { within = omega arith; piece = cutp; done = refl; to_core = refl; its_unit = refl; rest = refl; next = refl; over = refl },
                  refl,
                ),
              ),
            ),
          ),
        ),
      ),
    )

second-behind : (env : ℕ) → Leads env (before 1) (histories_behind 1) (after_behind 1)
second-behind env =
    let early : Group Log ℕ = record { cut = []; current = None; early = record { tenure = 1; unit = (0, 0) ∷ []; queue = 2 ∷ [] } ∷ []; arrived = 1 ∷ []; last = 0 } in
    let begun = with_piece (unit_at 1 false ((0, 0) ∷ []) (2 ∷ []) [] []) (1 ∷ []) 1 in
    let waiting = with_piece (unit_at 1 false ((0, 0) ∷ []) (2 ∷ []) (4 ∷ []) []) (1 ∷ []) 1 in (
      at_second early,
      (refl, refl),
      (
        at_second begun,
        (refl, refl),
        (
          at_second waiting,
          (refl, refl),
          (
            at_second waiting,
            refl,
            (
              after_behind 1,
              record {
                core = refl;
                failed = refl;
                groups = (
                  record {
                    cut = tt;
                    current = record { tenure = refl; tagged = refl; behind = refl; waited = refl; unit = (refl, tt); resting = λ e. absurd (cc) };
                    early = refl;
                    arrived = refl;
                    last = refl;
                  },
                  empties 511 env 1 7,
                );
              },
              refl,
            ),
          ),
        ),
      ),
    )

first-two : (env : ℕ) → Leads env (before 0) (histories_two 0) (after_two 0)
first-two env =
    let cutp : CutPiece Log ℕ = record { to = 1; piece = unit_at 0 true [] [] [] [] } in
    let cut : Group Log ℕ = record { cut = cutp ∷ []; current = None; early = []; arrived = []; last = 0 } in
    let waiting = with_piece (piece_of 2 false (4 ∷ []) []) [] 2 in (
      at_first (with_piece (unit_at 0 true [] [] [] []) [] 0),
      (refl, refl),
      (
        at_first cut,
        (refl, refl),
        (
          at_first empty,
          record { within = omega arith; piece = cutp; done = refl; to_core = refl; its_unit = refl; rest = refl; next = refl; over = refl },
          (
            at_first (with_piece (piece_of 2 false [] []) [] 2),
            (refl, refl),
            (
              at_first waiting,
              (refl, refl),
              (
                at_first waiting,
                refl,
                (
                  at_first (with_piece (unit_at 2 false [] [] (4 ∷ []) []) (2 ∷ []) 2),
                  (refl, refl),
                  (
                    after_two 0,
                    record {
                      core = refl;
                      failed = refl;
                      groups = (
                        record {
                          cut = tt;
                          current = record { tenure = refl; tagged = refl; behind = refl; waited = refl; unit = (refl, tt); resting = λ e. refl };
                          early = refl;
                          arrived = refl;
                          last = refl;
                        },
                        homes 511 env 0 8,
                      );
                    },
                    refl,
                  ),
                ),
              ),
            ),
          ),
        ),
      ),
    )

second-two : (env : ℕ) → Leads env (before 1) (histories_two 1) (after_two 1)
second-two env =
    let waits : CutPiece Log ℕ = record { to = 0; piece = piece_of 1 true [] [] } in
    let here : CutPiece Log ℕ = record { to = 0; piece = unit_at 1 true [] [] [] [] } in
    let cut : Group Log ℕ = record { cut = waits ∷ []; current = None; early = []; arrived = []; last = 1 } in
    let seated : Group Log ℕ = record { cut = here ∷ []; current = None; early = []; arrived = 1 ∷ []; last = 1 } in (
      at_second (with_piece (piece_of 1 false [] []) [] 1),
      (refl, refl),
      (
        at_second (with_piece (piece_of 1 true [] []) [] 1),
        (refl, refl),
        (
          at_second cut,
          (refl, refl),
          (
            at_second cut,
            refl,
            (
              at_second seated,
              (refl, refl),
              (
                after_two 1,
                record { within = omega arith; piece = here; done = refl; to_core = refl; its_unit = refl; rest = refl; next = refl; over = refl },
                refl,
              ),
            ),
          ),
        ),
      ),
    )

-- a unit leaves only where its piece was cut
no-cut : (env : ℕ) (y : View Log ℕ) (s : Parcel Log ℕ) (z : View Log ℕ) → z ≡ with_group (before 0) 0 (taken (group_at (before 0) 0) Tag) → s.group ≡ 0
    → Happened all_count own_name own_steps Anyhow Nothing env z (gone s) y → ⊥
no-cut env y s z is group ships =
    let none : done_of (group_at z s.group).cut ≡ None = rw (group, is) refl in
    let some = ships.done in
    absurd (cc)

past : {X : Type 0} (c : ℕ) → suc (suc c) < 2 → X
past c lt = absurd (omega arith)

any-same : {X : Type 0} (f : X → Bool) (n : ℕ) (x : X) → f x ≡ false → list_any f (replicate n x) ≡ false
any-same f zero x e = refl
any-same f (suc n) x e = rw e (any-same f n x e)

same-at : {X : Type 0} (n g : ℕ) (x d : X) → g < n → get_or (replicate n x) g d ≡ x
same-at zero g x d lt = absurd (omega arith)
same-at (suc n) zero x d lt = refl
same-at (suc n) (suc g) x d lt = same-at n g x d (omega arith)

done-same : (n g : ℕ) (x : Group Log ℕ) → done_of x.cut ≡ None → done_of (get_or (replicate n x) g empty).cut ≡ None
done-same zero g x e = refl
done-same (suc n) zero x e = e
done-same (suc n) (suc g) x e = done-same n g x e

done-none : (n g : ℕ) (z x : Group Log ℕ) → done_of z.cut ≡ None → done_of x.cut ≡ None → done_of (get_or (z ∷ replicate n x) g empty).cut ≡ None
done-none n zero z x e f = e
done-none n (suc g) z x e f = done-same n g x f

sizes : (c : ℕ) → c < 2 → length (before c).groups ≡ 512
sizes zero lt = refl
sizes (suc c) lt = refl

cores : (c : ℕ) → c < 2 → (before c).core ≡ c
cores zero lt = refl
cores (suc zero) lt = refl
cores (suc (suc c)) lt = past c lt

opens : (c g : ℕ) → c < 2 → g < 512 → group_at (before c) g ≡ (if c == (table g).core then at_home (new_unit g) else empty)
opens zero zero lt below = refl
opens zero (suc g) lt below = same-at 511 g (at_home []) empty (omega arith)
opens (suc zero) zero lt below = refl
opens (suc zero) (suc g) lt below = same-at 511 g empty empty (omega arith)
opens (suc (suc c)) g lt below = past c lt

idle-behind : (c : ℕ) → c < 2 → IsIdle (after_behind c)
idle-behind zero lt = record { work = any-same has 511 home refl; done = λ g. done-none 511 g bare home refl refl }
idle-behind (suc zero) lt = record { work = any-same has 511 bare refl; done = λ g. done-none 511 g _ bare refl refl }
idle-behind (suc (suc c)) lt = past c lt

idle-two : (c : ℕ) → c < 2 → IsIdle (after_two c)
idle-two zero lt = record { work = any-same has 511 home refl; done = λ g. done-none 511 g _ home refl refl }
idle-two (suc zero) lt = record { work = any-same has 511 bare refl; done = λ g. done-none 511 g _ bare refl refl }
idle-two (suc (suc c)) lt = past c lt

-- what came from one core came from core 0 or from core 1
one-of : (b c : ℕ) (s p : Parcel Log ℕ) → b < 2 → In s (if b == c then p ∷ [] else []) → c < 2
one-of b c s p lt i =
    elim (b == c) as (λ q. (b == c) ≡ q → In s (if q then p ∷ [] else []) → c < 2) [
      | true ↦ λ q j. grind (arith, nat_tests)
      | false ↦ λ q j. absurd j
    ] refl i

frame-behind : (env : ℕ) → Played all_count own_name own_steps Anyhow Nothing env 2 table behind_the_tag new_unit before after_behind histories_behind
frame-behind env = record {
  core = λ g below. omega arith;
  tenure = λ g below. refl;
  names = (tt, (tt, (tt, (omega arith, (tt, (tt, tt))))));
  rings = (refl, (tt, (refl, (tt, (refl, (tt, tt))))));
  size = sizes;
  here = cores;
  opens = opens;
  runs = runs;
  items = items;
  mesh = mesh;
  from = λ c d s lt i. from c d s lt (landed-to c s (histories_behind d) i);
  rest = idle-behind;
}
  where
    runs : (c : ℕ) → c < 2 → Leads env (before c) (histories_behind c) (after_behind c)
    runs zero lt = first-behind env
    runs (suc zero) lt = second-behind env
    runs (suc (suc c)) lt = past c lt

    items : (c : ℕ) → c < 2 → map (told own_name) (taken_in (histories_behind c)) ≡ put_on c table 0 behind_the_tag
    items zero lt = refl
    items (suc zero) lt = refl
    items (suc (suc c)) lt = past c lt

    mesh : (c d : ℕ) → c < 2 → d < 2 → gone_to d (histories_behind c) ≡ came_from c (histories_behind d)
    mesh zero zero lt lu = refl
    mesh zero (suc zero) lt lu = refl
    mesh (suc zero) zero lt lu = refl
    mesh (suc zero) (suc zero) lt lu = refl
    mesh (suc (suc c)) d lt lu = past c lt
    mesh zero (suc (suc d)) lt lu = past d lu
    mesh (suc zero) (suc (suc d)) lt lu = past d lu

    from : (c d : ℕ) (s : Parcel Log ℕ) → d < 2 → In s (came_from c (histories_behind d)) → c < 2
    from c zero s lt i = absurd i
    from c (suc d) s lt i = one-of 0 c s moved (omega arith) i

two-first : (env : ℕ) → Played all_count own_name own_steps Anyhow Nothing env 2 table two_moves new_unit before after_two histories_two
two-first env = record {
  core = λ g below. omega arith;
  tenure = λ g below. refl;
  names = (tt, (omega arith, (tt, (omega arith, (tt, (tt, tt))))));
  rings = (tt, (tt, (tt, (tt, (refl, (tt, tt))))));
  size = sizes;
  here = cores;
  opens = opens;
  runs = runs;
  items = items;
  mesh = mesh;
  from = λ c d s lt i. from c d s lt (landed-to c s (histories_two d) i);
  rest = idle-two;
}
  where
    runs : (c : ℕ) → c < 2 → Leads env (before c) (histories_two c) (after_two c)
    runs zero lt = first-two env
    runs (suc zero) lt = second-two env
    runs (suc (suc c)) lt = past c lt

    items : (c : ℕ) → c < 2 → map (told own_name) (taken_in (histories_two c)) ≡ put_on c table 0 two_moves
    items zero lt = refl
    items (suc zero) lt = refl
    items (suc (suc c)) lt = past c lt

    mesh : (c d : ℕ) → c < 2 → d < 2 → gone_to d (histories_two c) ≡ came_from c (histories_two d)
    mesh zero zero lt lu = refl
    mesh zero (suc zero) lt lu = refl
    mesh (suc zero) zero lt lu = refl
    mesh (suc zero) (suc zero) lt lu = refl
    mesh (suc (suc c)) d lt lu = past c lt
    mesh zero (suc (suc d)) lt lu = past d lu
    mesh (suc zero) (suc (suc d)) lt lu = past d lu

    from : (c d : ℕ) (s : Parcel Log ℕ) → d < 2 → In s (came_from c (histories_two d)) → c < 2
    from c zero s lt i = one-of 1 c s back (omega arith) i
    from c (suc d) s lt i = one-of 0 c s there (omega arith) i

pub worked-plays : WorkedPlays
worked-plays = record {
  frame_behind_the_tag = frame-behind;
  two_moves_before_a_frame = two-first;
  no_shipment_before_its_cut = λ env y s group r. no-cut env r.2.0 s r.0 r.1.1 group r.2.1;
}
