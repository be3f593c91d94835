-- Frames, tags and moves of the script become entries.
use Rattle.std.proofs.Common.{◌≡◌, ℕ, zero, suc, ◌+◌, ◌-◌, ◌<◌, ◌≤◌, List, [], ◌∷◌, ◌++◌, length, take, drop, refl, ap, ◌∙◌, arith, Bool, true, false, Option, Some, None, append_assoc}
use Rattle.std.specs.Prelude.{if◌then◌else◌, ◌==◌, nat_lt, Ok, Result, slice_set}
use Rattle.std.proofs.lemmas.Bool.Decides.{nat_tests}
use Rattle.std.proofs.lemmas.List.{take-replicate, drop-replicate}
use Rattle.ix_base.specs.declared.id.CoreId.{CoreId}
use Rattle.ix_wire.specs.declared.command.Command.TheVariants as commands
use Rattle.ix_wire.specs.declared.command.Version.TheVariants.{One}
use Rattle.ix_wire.specs.declared.entry.Entry.{Entry}
use Rattle.ix_wire.specs.declared.entry.Entry.TheVariants.{Frame, Tag, Move, Settle}
use Rattle.ix_wire.specs.declared.fault.ScriptKind.{ScriptKind}
use Rattle.ix_wire.specs.declared.progress.Progress.{Progress}
use Rattle.ix_wire.specs.Chain.{◌>>=◌}
use Rattle.ix_wire.specs.Progress.{core_of, frames_run, run, with_step, with_tag, with_wire}
use Rattle.ix_wire.specs.Records.{others_from, records_in}
use Rattle.ix_wire.specs.Table.{Standing, first_live, moved, tagged}
use Rattle.ix_wire.specs.Wire.{Written, settled, with_control, with_frame, with_frames, with_move}
use Rattle.ix_gen.specs.Wire.{core, frames_from, group, none_own}

-- the entries so far with their counts, at a pace of 256
abbrev pub written : List Entry → ℕ → ℕ → ℕ → ℕ → Written
written es paced controls frames moves =
    record { entries = es; pace = 256; paced = paced; controls = controls; frames = frames; moves = moves }

-- four cores, all live
abbrev pub standing : List CoreId → List (Option ℕ) → Standing
standing at tags = record { at = at; tags = tags; live = first_live 4; count = 4 }

-- what the lines so far have come to
abbrev pub state : Written → Standing → Bool → Progress
state w t begun = record { wire = w; table = t; clock = 0; version = One; begun = begun }

-- ---- frames
frame_full : (rec : ℕ) (es : List Entry) (paced controls frames moves : ℕ) → frames < 262144 → (paced + 1 == 256) ≡ true
    → with_frame rec (written es paced controls frames moves) ≡ Ok (written ((es ++ Frame rec ∷ []) ++ Settle ∷ []) 0 0 (frames + 1) moves)
unfolding with_frame settled
frame_full rec es paced controls frames moves room full =
    let below : (frames == 262144) ≡ false = grind (arith, nat_tests) in
    rw (below, full) refl

frame_more : (rec : ℕ) (es : List Entry) (paced controls frames moves : ℕ) → frames < 262144 → (paced + 1 == 256) ≡ false
    → with_frame rec (written es paced controls frames moves) ≡ Ok (written (es ++ Frame rec ∷ []) (paced + 1) controls (frames + 1) moves)
unfolding with_frame settled
frame_more rec es paced controls frames moves room more =
    let below : (frames == 262144) ≡ false = grind (arith, nat_tests) in
    rw (below, more) refl

others_more : (rec n : ℕ) → others_from rec (none_own (suc n)) ≡ rec ∷ others_from (rec + 1) (none_own n)
unfolding others_from
others_more rec n = refl

others_none : (rec : ℕ) → others_from rec (none_own 0) ≡ []
unfolding others_from
others_none rec = refl

settled_is : (es : List Entry) (paced controls frames moves : ℕ)
    → settled (written es paced controls frames moves) ≡ written (es ++ Settle ∷ []) 0 0 frames moves
unfolding settled
settled_is es paced controls frames moves = refl

-- frames that are written, and what a settle makes of them
pub record IsFramed (rec n : ℕ) (es : List Entry) (paced controls frames moves : ℕ) : Type 0 where
  pub behind : Written
  pub is : with_frames (others_from rec (none_own n)) (written es paced controls frames moves) ≡ Ok behind
  pub settles : settled behind ≡ written (es ++ (frames_from paced rec n ++ Settle ∷ [])) 0 0 (frames + n) moves

same_written : (es fs : List Entry) (f g moves : ℕ) → es ≡ fs → f ≡ g → written es 0 0 f moves ≡ written fs 0 0 g moves
same_written es fs f g moves h k = ap (λ e. written e 0 0 f moves) h ∙ ap (λ n. written fs 0 0 n moves) k

full_entries : (es xs ys zs : List Entry) (a s : Entry) (b : Bool) → b ≡ true
    → ((es ++ a ∷ []) ++ s ∷ []) ++ (xs ++ zs) ≡ es ++ ((a ∷ (if b then s ∷ xs else ys)) ++ zs)
full_entries es xs ys zs a s b h = rw h (simp append_assoc)

more_entries : (es xs ys zs : List Entry) (a : Entry) (b : Bool) → b ≡ false
    → (es ++ a ∷ []) ++ (ys ++ zs) ≡ es ++ ((a ∷ (if b then xs else ys)) ++ zs)
more_entries es xs ys zs a b h = rw h (simp append_assoc)

pub framed : (rec n : ℕ) (es : List Entry) (paced controls frames moves : ℕ) → frames + n ≤ 262144
    → IsFramed rec n es paced controls frames moves
framed rec zero es paced controls frames moves room = record {
  behind = written es paced controls frames moves;
  is = ap (λ recs. with_frames recs (written es paced controls frames moves)) (others_none rec);
  settles = settled_is es paced controls frames moves ∙ same_written (es ++ Settle ∷ []) (es ++ Settle ∷ []) frames (frames + 0) moves refl (omega arith);
}
framed rec (suc n) es paced controls frames moves room =
    go (paced + 1 == 256) refl (λ fs p c. framed (rec + 1) n fs p c (frames + 1) moves (omega arith)) where
      go : (b : Bool) → (paced + 1 == 256) ≡ b → ((fs : List Entry) (p c : ℕ) → IsFramed (rec + 1) n fs p c (frames + 1) moves)
          → IsFramed rec (suc n) es paced controls frames moves
      go true full after =
          let rest = after ((es ++ Frame rec ∷ []) ++ Settle ∷ []) 0 0 in
          record {
            behind = rest.behind;
            is =
                ap (λ recs. with_frames recs (written es paced controls frames moves)) (others_more rec n)
                ∙ ap (λ r. r >>= with_frames (others_from (rec + 1) (none_own n))) (frame_full rec es paced controls frames moves (omega arith) full)
                ∙ rest.is;
            settles =
                rest.settles
                ∙ same_written _ _ (frames + 1 + n) (frames + suc n) moves
                (full_entries es (frames_from 0 (rec + 1) n) (frames_from (paced + 1) (rec + 1) n) (Settle ∷ []) (Frame rec) Settle (paced + 1 == 256) full)
                (omega arith);
          }
      go false more after =
          let rest = after (es ++ Frame rec ∷ []) (paced + 1) controls in
          record {
            behind = rest.behind;
            is =
                ap (λ recs. with_frames recs (written es paced controls frames moves)) (others_more rec n)
                ∙ ap (λ r. r >>= with_frames (others_from (rec + 1) (none_own n))) (frame_more rec es paced controls frames moves (omega arith) more)
                ∙ rest.is;
            settles =
                rest.settles
                ∙ same_written _ _ (frames + 1 + n) (frames + suc n) moves
                (more_entries es (Settle ∷ frames_from 0 (rec + 1) n) (frames_from (paced + 1) (rec + 1) n) (Settle ∷ []) (Frame rec) (paced + 1 == 256) more)
                (omega arith);
          }

-- the records of a round
pub records_are : (total rec n : ℕ) → 1 ≤ n → rec + n ≤ total → records_in (none_own total) rec (rec + n - 1) ≡ others_from rec (none_own n)
unfolding records_in
records_are total rec n some room =
    let count : rec + n - 1 + 1 - rec ≡ n = omega arith in
    ap (λ k. others_from rec (take k (drop rec (none_own total)))) count
    ∙ ap (λ own. others_from rec (take n own)) (drop-replicate rec total false)
    ∙ ap (others_from rec) (take-replicate n (total - rec) false (omega arith))

-- a line of frames
pub frames_are_run : (own : List Bool) (number a b : ℕ) (recs : List ℕ) (p : Progress) (w : Written)
    → nat_lt b (length own) ≡ true → records_in own a b ≡ recs → with_frames recs p.wire ≡ Ok w
    → run own number (commands.Frames a b) p ≡ Ok (with_wire p w)
unfolding run frames_run
frames_are_run own number a b recs p w there records is = rw (there, records, is) refl

-- a line of a settle
pub settle_is_run : (own : List Bool) (number : ℕ) (p : Progress) → run own number commands.Settle p ≡ Ok (with_wire p (settled p.wire))
unfolding run
settle_is_run own number p = refl

-- ---- one tag, and one move
control_is : (e : Entry) (es : List Entry) (controls frames moves : ℕ) → moves < 10000 → controls < 900
    → with_move e (written es 0 controls frames moves) ≡ Ok (written (es ++ e ∷ []) 0 (controls + 1) frames (moves + 1))
unfolding with_move with_control
control_is e es controls frames moves few short =
    let room : (moves == 16777216) ≡ false = grind (arith, nat_tests) in
    let below : (controls + 1 == 1000) ≡ false = grind (arith, nat_tests) in
    rw (room, below) refl

pub tag_is : (line g : ℕ) (es : List Entry) (controls frames moves : ℕ) (at : List CoreId) (tags : List (Option ℕ)) (begun : Bool)
    → moves < 10000 → controls < 900
    → with_tag line g (state (written es 0 controls frames moves) (standing at tags) begun)
    ≡ Ok (state (written (es ++ Tag (group g) ∷ []) 0 (controls + 1) frames (moves + 1)) (standing at (slice_set tags g (Some line))) begun)
unfolding with_tag tagged
tag_is line g es controls frames moves at tags begun few short =
    ap (λ (r : Result Written ScriptKind). r >>= λ w. Ok (state w (standing at (slice_set tags g (Some line))) begun))
    (control_is (Tag (group g)) es controls frames moves few short)

pub step_is : (to g : ℕ) (es : List Entry) (controls frames moves : ℕ) (at : List CoreId) (tags : List (Option ℕ)) (begun : Bool)
    → moves < 10000 → controls < 900
    → with_step (core_of to) g (state (written es 0 controls frames moves) (standing at tags) begun)
    ≡ Ok (state (written (es ++ Move (group g) (core to) ∷ []) 0 (controls + 1) frames (moves + 1))
    (standing (slice_set at g (core to)) (slice_set tags g None)) begun)
unfolding with_step moved
step_is to g es controls frames moves at tags begun few short =
    ap (λ (r : Result Written ScriptKind). r >>= λ w. Ok (state w (standing (slice_set at g (core to)) (slice_set tags g None)) begun))
    (control_is (Move (group g) (core to)) es controls frames moves few short)
