-- The frames that are out, one after another.
use Rattle.std.proofs.Common.{◌≡◌, ℕ, ◌+◌, ◌<◌, ◌≤◌, sym, ap, ◌∙◌, Bool, true, false, List, [], ◌∷◌, ◌++◌, length, map, drop, get_or, add-one, append_assoc, append-nil}
use Rattle.std.specs.Prelude.{if◌then◌else◌, ◌&&◌, Option}
use Rattle.std.proofs.lemmas.List.{drop_more, drop_all}
use Rattle.ix_base.specs.declared.id.WireNo.{WireNo}
use Rattle.ix_groupdef.specs.Life.{Life, lives}
use Rattle.ix_groupdef.specs.Owners.{ended_from, told_parts}
use Rattle.ix_lines.specs.declared.types.EntryLine.{EntryLine}
use Rattle.ix_tcpdef.specs.declared.types.Connection.{Connection}
use Rattle.ix_tcpdef.specs.declared.types.HeldSegment.{HeldSegment}
use Rattle.ix_tcpdef.specs.declared.types.Piece.{Piece}
use Rattle.ix_fits.specs.Cutting.{reach_from, tag_after, up_to}
use Rattle.ix_fits.specs.Owners.{waiting_from, waits}
use Rattle.ix_out.specs.declared.frames_out.OutFrame.{OutFrame}
use Rattle.ix_out.specs.declared.frames_out.Place.TheVariants.{Desk, Held}
use Rattle.ix_out.specs.Out.{held_out, life_out, lives_out, out_at, out_if, part_place, told_out}

-- ## How far a group is stepped
pub reach-next : (g w : ℕ) (o : Option ℕ) (ls : List EntryLine) (d : EntryLine) → w < length ls → reach_from g w o (drop w ls) ≡ reach_from g (w + 1) (tag_after g w o (get_or ls w d)) (drop (w + 1) ls)
reach-next g w o ls d lt =
    ap (reach_from g w o) (drop_more ls w d lt) ∙ ap (λ n. reach_from g n (tag_after g w o (get_or ls w d)) (drop (w + 1) ls)) (sym (add-one w))

pub reach-end : (g w : ℕ) (o : Option ℕ) (ls : List EntryLine) → length ls ≤ w → reach_from g w o (drop w ls) ≡ up_to w o
reach-end g w o ls le = ap (reach_from g w o) (drop_all w ls le)

pub ruleset for_reach = (reach-next, reach-end)

-- ## Those that wait
waiting-cons : (g r w : ℕ) (ls : List EntryLine) (d : EntryLine) → w < length ls
    → waiting_from g r w (drop w ls) ≡ (if waits g r w (get_or ls w d) then record { 0 = w } ∷ [] else []) ++ waiting_from g r (w + 1) (drop (w + 1) ls)
waiting-cons g r w ls d lt =
    ap (waiting_from g r w) (drop_more ls w d lt)
    ∙ ap (λ n. (if waits g r w (get_or ls w d) then record { 0 = w } ∷ [] else []) ++ waiting_from g r n (drop (w + 1) ls)) (sym (add-one w))

pub waiting-skips : (g r w : ℕ) (ls : List EntryLine) (d : EntryLine) (outs : List OutFrame) → w < length ls → waits g r w (get_or ls w d) ≡ false
    → outs ++ map (out_at Desk) (waiting_from g r w (drop w ls)) ≡ outs ++ map (out_at Desk) (waiting_from g r (w + 1) (drop (w + 1) ls))
waiting-skips g r w ls d outs lt fails =
    ap (λ (ws : List WireNo). outs ++ map (out_at Desk) ws)
    (waiting-cons g r w ls d lt ∙ ap (λ (b : Bool). (if b then record { 0 = w } ∷ [] else []) ++ waiting_from g r (w + 1) (drop (w + 1) ls)) fails)

pub waiting-adds : (g r w : ℕ) (ls : List EntryLine) (d : EntryLine) (outs more : List OutFrame) (o : OutFrame) → w < length ls → waits g r w (get_or ls w d) ≡ true
    → o ≡ out_at Desk (record { 0 = w }) → more ≡ outs ++ o ∷ []
    → outs ++ map (out_at Desk) (waiting_from g r w (drop w ls)) ≡ more ++ map (out_at Desk) (waiting_from g r (w + 1) (drop (w + 1) ls))
waiting-adds g r w ls d outs more o lt holds is put =
    let rest : List OutFrame = map (out_at Desk) (waiting_from g r (w + 1) (drop (w + 1) ls)) in
    ap (λ (ws : List WireNo). outs ++ map (out_at Desk) ws)
    (waiting-cons g r w ls d lt ∙ ap (λ (b : Bool). (if b then record { 0 = w } ∷ [] else []) ++ waiting_from g r (w + 1) (drop (w + 1) ls)) holds)
    ∙ sym (append_assoc outs (out_at Desk (record { 0 = w }) ∷ []) rest)
    ∙ ap (λ (x : OutFrame). (outs ++ x ∷ []) ++ rest) (sym is)
    ∙ ap (λ (xs : List OutFrame). xs ++ rest) (sym put)

pub waiting-end : (g r w : ℕ) (ls : List EntryLine) (outs : List OutFrame) → length ls ≤ w → outs ++ map (out_at Desk) (waiting_from g r w (drop w ls)) ≡ outs
waiting-end g r w ls outs le = ap (λ xs. outs ++ map (out_at Desk) (waiting_from g r w xs)) (drop_all w ls le) ∙ append-nil outs

pub ruleset for_waiting = (waiting-skips, waiting-adds, waiting-end)

-- ## Those that are held
pub held-next : (hs : List HeldSegment) (i : ℕ) (h d : HeldSegment) (outs more : List OutFrame) → i < length hs → h ≡ get_or hs i d → more ≡ outs ++ out_at Held h.w ∷ []
    → outs ++ held_out (drop i hs) ≡ more ++ held_out (drop (i + 1) hs)
held-next hs i h d outs more lt is put =
    ap (λ xs. outs ++ held_out xs) (drop_more hs i d lt ∙ ap (λ x. x ∷ drop (i + 1) hs) (sym is))
    ∙ sym (append_assoc outs (out_at Held h.w ∷ []) (held_out (drop (i + 1) hs)))
    ∙ ap (λ (xs : List OutFrame). xs ++ held_out (drop (i + 1) hs)) (sym put)

pub held-end : (hs : List HeldSegment) (i : ℕ) (outs : List OutFrame) → length hs ≤ i → outs ++ held_out (drop i hs) ≡ outs
held-end hs i outs le = ap (λ xs. outs ++ held_out xs) (drop_all i hs le) ∙ append-nil outs

pub ruleset for_held = (held-next, held-end)

-- ## Told parts
pub told-next : (c : Connection) (ps : List Piece) (i end later : ℕ) (p d : Piece) (outs more : List OutFrame) → i < length ps → p ≡ get_or ps i d → later ≡ end + length p.bytes
    → more ≡ outs ++ out_if (part_place c later) p.w
    → outs ++ told_out c (ended_from end (drop i ps)) ≡ more ++ told_out c (ended_from later (drop (i + 1) ps))
told-next c ps i end later p d outs more lt is at put =
    let sum : ℕ = end + length p.bytes in
    let rest : List Piece = drop (i + 1) ps in
    ap (λ xs. outs ++ told_out c (ended_from end xs)) (drop_more ps i d lt ∙ ap (λ x. x ∷ rest) (sym is))
    ∙ ap (λ n. outs ++ (out_if (part_place c n) p.w ++ told_out c (ended_from n rest))) (sym at)
    ∙ sym (append_assoc outs (out_if (part_place c later) p.w) (told_out c (ended_from later rest)))
    ∙ ap (λ (xs : List OutFrame). xs ++ told_out c (ended_from later rest)) (sym put)

pub told-end : (c : Connection) (ps : List Piece) (i end : ℕ) (outs : List OutFrame) → length ps ≤ i → outs ++ told_out c (ended_from end (drop i ps)) ≡ outs
told-end c ps i end outs le = ap (λ xs. outs ++ told_out c (ended_from end xs)) (drop_all i ps le) ∙ append-nil outs

pub ruleset for_told = (told-next, told-end)

-- ## A connection
pub life-whole : (whole alive : Bool) (l : Life) (before between after : List OutFrame) → (whole && alive) ≡ true → alive ≡ lives l → between ≡ before ++ held_out l.connection.held
    → after ≡ between ++ told_out l.connection (told_parts l.connection) → after ≡ before ++ life_out whole l
life-whole whole alive l before between after both is held told =
    told
    ∙ ap (λ (xs : List OutFrame). xs ++ told_out l.connection (told_parts l.connection)) held
    ∙ append_assoc before (held_out l.connection.held) (told_out l.connection (told_parts l.connection))
    ∙ ap (λ (b : Bool). before ++ (held_out l.connection.held ++ (if b then told_out l.connection (told_parts l.connection) else []))) (sym (ap (λ (a : Bool). whole && a) (sym is) ∙ both))

pub life-rest : (whole alive : Bool) (l : Life) (before after : List OutFrame) → (whole && alive) ≡ false → alive ≡ lives l → after ≡ before ++ held_out l.connection.held
    → after ≡ before ++ life_out whole l
life-rest whole alive l before after not_both is held =
    held
    ∙ ap (λ (xs : List OutFrame). before ++ xs) (sym (append-nil (held_out l.connection.held)))
    ∙ ap (λ (b : Bool). before ++ (held_out l.connection.held ++ (if b then told_out l.connection (told_parts l.connection) else []))) (sym (ap (λ (a : Bool). whole && a) (sym is) ∙ not_both))

pub ruleset for_life = (life-whole, life-rest)

pub lives-next : (whole : Bool) (ls : List Life) (i : ℕ) (l d : Life) (outs more : List OutFrame) → i < length ls → l ≡ get_or ls i d → more ≡ outs ++ life_out whole l
    → outs ++ lives_out whole (drop i ls) ≡ more ++ lives_out whole (drop (i + 1) ls)
lives-next whole ls i l d outs more lt is put =
    ap (λ xs. outs ++ lives_out whole xs) (drop_more ls i d lt ∙ ap (λ x. x ∷ drop (i + 1) ls) (sym is))
    ∙ sym (append_assoc outs (life_out whole l) (lives_out whole (drop (i + 1) ls)))
    ∙ ap (λ (xs : List OutFrame). xs ++ lives_out whole (drop (i + 1) ls)) (sym put)

pub lives-end : (whole : Bool) (ls : List Life) (i : ℕ) (outs : List OutFrame) → length ls ≤ i → outs ++ lives_out whole (drop i ls) ≡ outs
lives-end whole ls i outs le = ap (λ xs. outs ++ lives_out whole xs) (drop_all i ls le) ∙ append-nil outs

pub ruleset for_lives = (lives-next, lives-end)

pub group-adds : (before between after ws ls : List OutFrame) → between ≡ before ++ ws → after ≡ between ++ ls → after ≡ before ++ (ws ++ ls)
group-adds before between after ws ls a b = b ∙ ap (λ (xs : List OutFrame). xs ++ ls) a ∙ append_assoc before ws ls

pub ruleset for_group = (group-adds)
