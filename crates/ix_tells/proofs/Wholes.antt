-- The numbers of each home, as a settle tells them.
use Rattle.std.proofs.Common.{◌≡◌, ◌<◌, ◌+◌, ◌-◌, ◌^◌, ◌==◌, ◌&&◌, ℕ, suc, List, [], ◌∷◌, length, get_or, Bool, true, false, refl, sym, ap, subst, ◌∙◌, arith, eq-eqb}
use Rattle.std.specs.Prelude.{min}
use Rattle.std.specs.List.{list_all, zip}
use Rattle.ix_base.specs.declared.id.Owned.{Owned}
use Rattle.ix_mbuf.specs.declared.name.Name.{Name}
use Rattle.ix_mbuf.specs.Buffers.{Buffer}
use Rattle.ix_lines.specs.declared.types.HomeLine.{HomeLine}
use Rattle.ix_lines.specs.declared.types.RingLine.{RingLine}
use Rattle.ix_lines.specs.declared.types.SettleLine.{SettleLine}
use Rattle.ix_nic.specs.Cards.{CardView}
use Rattle.ix_nic.specs.Ports.{PortView, capped, posted_now}
use Rattle.ix_nic.specs.declared.offer.Counts.{Counts}
use Rattle.ix_core.specs.Counting.{app_over, frames_over, held_over, queue_over}
use Rattle.ix_core.specs.Renewing.{posted_count}
use Rattle.ix_core.specs.Settling.{Settles}
use Rattle.ix_core.specs.declared.counting.Home.{Home}
use Rattle.ix_core.specs.declared.settling.SettleReport.{SettleReport}
use Rattle.ix_core.specs.declared.turning.Core.{Core}
use Rattle.ix_fits.specs.Card.{adds_up, is_whole}
use Rattle.ix_homes.specs.Homes.{HomesAddUp, IsHome, whole_home}
use Rattle.ix_tells.specs.Wholes.{HaveSlots, LineTells, SettlesAreWhole, home_line}

both : (a b : Bool) → a ≡ true → b ≡ true → (a && b) ≡ true
both true true a b = refl
both true false a b = b
both false b a c = a

-- the six numbers, none of which stands at its type's end
numbers-add : (buffers pool posted frames held app queue f i : ℕ) → buffers < 2 ^ 32 → (pool + posted) + (frames + (held + (app + queue))) ≡ buffers → posted ≡ min 512 (pool + posted)
    → adds_up buffers (record { posted = capped posted; frames = f; items = i }) (record { pool = pool; posted = capped posted; desk = capped frames; held = capped held; app = capped app; queue = capped queue }) ≡ true
numbers-add buffers pool posted frames held app queue f i few all filled =
    let six : pool + capped posted + (capped frames + capped held + capped app + capped queue) ≡ buffers = omega (arith, few, all) in
    let most : capped posted ≡ min 512 (buffers - (capped frames + capped held + capped app + capped queue)) = omega (arith, few, all, filled) in
    both _ _ (both _ _ (eq-eqb _ _ six) (eq-eqb _ _ most)) (eq-eqb _ _ refl)

zip-all : (test : RingLine → HomeLine → Bool) (rs : List RingLine) (hs : List HomeLine) → length rs ≡ length hs
    → ((k : ℕ) (r : RingLine) (h : HomeLine) → k < length rs → test (get_or rs k r) (get_or hs k h) ≡ true) → list_all (λ (p : RingLine × HomeLine). test p.0 p.1) (zip rs hs) ≡ true
zip-all test [] hs same each = refl
zip-all test (r ∷ rs) [] same each = absurd (omega (arith, same))
zip-all test (r ∷ rs) (h ∷ hs) same each =
    both (test r h) (list_all (λ (p : RingLine × HomeLine). test p.0 p.1) (zip rs hs)) (each 0 r h (omega arith))
    (zip-all test rs hs (omega (arith, same)) (λ k a b lt. each (suc k) a b (omega (arith, lt))))

an-element : {X : Type 0} (xs : List X) (c : ℕ) → c < length xs → X
an-element [] c lt = absurd (omega arith)
an-element (x ∷ xs) c lt = x

module _ {U E : Type 0} (drained : U → List Buffer → U → Type 0) (weight : (Name → ℕ) → U → ℕ) (owners : U → ℕ → Owned) (adds : HomesAddUp U E drained weight owners) where
  module _ (buffers : ℕ) (line : SettleLine) (report : SettleReport) (card card' : CardView) (cores cores' : List (Core U E)) (few : buffers < 2 ^ 32) (slots : HaveSlots buffers cores')
      (home : IsHome drained weight card' cores') (settles : Settles owners report card card' cores cores') (tells : LineTells line report) where
    one-home : (c : ℕ) (l : RingLine) (m : HomeLine) (p : PortView) (d : Core U E) (r : Counts) (h : Home) → c < length cores
        → adds_up buffers (get_or line.rings c l) (get_or line.homes c m) ≡ true
    one-home c l m p d r h lt =
        let there : c < length cores' = omega (arith, lt, settles.count) in
        let core : Core U E = get_or cores' c d in
        let port : PortView = get_or card'.ports c p in
        let all : whole_home owners port core cores' ≡ buffers = adds card' cores' home c p d there ∙ slots c d there in
        let ring-is = tells.rings c l r (omega (arith, lt, settles.rings_count)) ∙ ap (λ (x : Counts). (let y : RingLine = record { posted = x.posted; frames = x.frames; items = x.items } in y)) (settles.rings c p r lt) in
        let home-is = tells.homes c m h (omega (arith, lt, settles.homes_count)) ∙ ap home_line (settles.homes c p d h lt) in
        subst (λ (x : RingLine). adds_up buffers x (get_or line.homes c m) ≡ true) (sym ring-is)
        (subst (λ (y : HomeLine). adds_up buffers (record { posted = posted_now port; frames = (get_or card.ports c p).frames; items = (get_or card.ports c p).items }) y ≡ true) (sym home-is)
        (numbers-add buffers (length core.pool.free) (posted_count port) (frames_over core.pool.home.0 cores') (held_over owners core.pool.home.0 cores') (app_over owners core.pool.home.0 cores') (queue_over owners core.pool.home.0 cores')
        (get_or card.ports c p).frames (get_or card.ports c p).items few all (settles.each c p d lt).posted))

    line-is-whole : is_whole (length cores) buffers line ≡ true
    line-is-whole =
        let rings : length line.rings ≡ length cores = tells.rings_count ∙ settles.rings_count in
        let homes : length line.homes ≡ length cores = tells.homes_count ∙ settles.homes_count in
        both (length line.rings == length cores && length line.homes == length cores) (list_all (λ (p : RingLine × HomeLine). adds_up buffers p.0 p.1) (zip line.rings line.homes))
        (both (length line.rings == length cores) (length line.homes == length cores) (eq-eqb (length line.rings) (length cores) rings) (eq-eqb (length line.homes) (length cores) homes))
        (zip-all (adds_up buffers) line.rings line.homes (rings ∙ sym homes) (λ c l m below.
        let lt : c < length cores = subst (λ n. c < n) rings below in
        one-home c l m (an-element card'.ports c (omega (arith, lt, settles.count, home.ready.order.count))) (an-element cores c lt)
        (an-element report.rings.items c (omega (arith, lt, settles.rings_count))) (an-element report.homes.items c (omega (arith, lt, settles.homes_count))) lt))

  pub settles-are-whole : SettlesAreWhole U E drained weight owners
  settles-are-whole buffers line report card card' cores cores' few slots home settles tells = line-is-whole buffers line report card card' cores cores' few slots home settles tells
