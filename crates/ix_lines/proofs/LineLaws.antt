-- A line that is written is read, and what is read is written so.
use Rattle.std.proofs.Common.{◌≡◌, ℕ, ◌≤◌, ◌<◌, ◌^◌, List, [], ◌∷◌, refl, ap, sym, ◌∙◌, subst, arith, Option, Some, None}
use Rattle.std.specs.Prelude.{if◌then◌else◌, codes}
use Rattle.std.specs.Str.{bytes_eq}
use Rattle.std.specs.Fmt.{decimal}
use Rattle.std.proofs.lemmas.Bool.{cond_both}
use Rattle.std.proofs.lemmas.Option.{same_Some}
use Rattle.std.proofs.lemmas.Slice.Eq.{bytes_eq-Decides}
use Rattle.ix_words.specs.Parts.{parts, join}
use Rattle.ix_words.specs.Numbers.{hex8_of}
use Rattle.ix_words.specs.Fields.{◌>>=◌, at_end, dotted_of, place_of}
use Rattle.ix_words.specs.PartLaws.{join-parts}
use Rattle.ix_words.specs.NumberLaws.{hex8_of-takes}
use Rattle.ix_words.specs.FieldLaws.{word_then, field_then, named_then, number_then, named_number_then, end_then, dotted_of-takes, place_of-takes}
use Rattle.ix_lines.specs.declared.line.Line.{Line}
use Rattle.ix_lines.specs.declared.line.Line.TheVariants as lines
use Rattle.ix_lines.specs.declared.types.Fate.{Fate}
use Rattle.ix_lines.specs.declared.types.Fate.TheVariants as fates
use Rattle.ix_lines.specs.declared.types.EntryLine.TheVariants as entries
use Rattle.ix_lines.specs.declared.types.InputKind.TheVariants as inputs
use Rattle.ix_lines.specs.declared.types.RetLine.TheVariants as rets
use Rattle.ix_lines.specs.declared.types.OutputLine.TheVariants as outputs
use Rattle.ix_lines.specs.Names.{state_of, connect_answer_of, reply_number_of, refusal_of, connected_of, dead_of}
use Rattle.ix_lines.specs.Words.{words, line_text, fate_words, Fits, FitsFate, max8, max16, max32, max64, last_group}
use Rattle.ix_lines.specs.Read.{or_else, buf_fate, amount_of, drop_fate, fate_of, head_line, open_line, settle_line, ring_line, home_line, answered_line, time_line, tag_line, move_line, frame_line, stray_line, conn_line, seg_line, timer_line, sendv_line, recv_done_line, flush_line, reply_line, done_line, refused_line, connected_line, ended_line, recv_line, sent_line, dead_line, left_line, answer_line, closed_line, end_line, call_line, event_line, journal_line, entry_line, by_verb, line_of, line_read}
use Rattle.ix_lines.proofs.NameLaws.{state_of-takes, connect_answer_of-takes, kind_then, reply_number_of-takes, refusal_of-then, connected_of-then, dead_of-then}

small8 : max8 < 2 ^ 64
small8 = omega arith

small16 : max16 < 2 ^ 64
small16 = omega arith

small32 : max32 < 2 ^ 64
small32 = omega arith

small64 : max64 < 2 ^ 64
small64 = omega arith

smallg : last_group < 2 ^ 64
smallg = omega arith

-- one test of a word
test_takes : {A P : Type 0} (word key : List ℕ) (o p : Option A) (x : A) → (if bytes_eq word key then o else p) ≡ Some x
    → (word ≡ key → o ≡ Some x → P) → (p ≡ Some x → P) → P
test_takes {P = P} word key o p x e f g =
    cond_both (bytes_eq word key) o p (λ r. r ≡ Some x → P) (λ t h. f ((bytes_eq-Decides word key).0 t) h) (λ t h. g h) e

-- ---- what became of a frame
record TakesFate (ws : List (List ℕ)) (t : Fate) : Type 0 where
  pub words : ws ≡ fate_words t
  pub fits : FitsFate t

buf_takes : (verb : List ℕ) (ws : List (List ℕ)) (t : Fate) → verb ≡ codes "buf" → buf_fate ws ≡ Some t → TakesFate (verb ∷ ws) t
unfolding buf_fate
buf_takes verb ws t v e =
    field_then (place_of max8 max32) ws _ t e (λ b w r p q f. end_then r (fates.Buf (record { home = record { 0 = b.0 }; slot = b.1 })) t f (λ z y.
    let u = place_of-takes max8 max32 b w small8 small32 q in
    let s = u.0 in
    subst (TakesFate (verb ∷ ws)) y (record { words = cc; fits = (u.1, u.2) })))

record TakesAmount (ws : List (List ℕ)) (n : ℕ) : Type 0 where
  pub words : ws ≡ decimal n ∷ []
  pub fits : n ≤ max32

amount_takes : (ws : List (List ℕ)) (n : ℕ) → amount_of ws ≡ Some n → TakesAmount ws n
unfolding amount_of
amount_takes ws n e =
    number_then max32 ws _ n small32 e (λ m r p h f. end_then r m n f (λ z y. subst (TakesAmount ws) y (record { words = cc; fits = h })))

amount_then : (ws : List (List ℕ)) (g : ℕ → Fate) (t : Fate) {P : Type 0} → amount_of ws >>= (λ n. Some (g n)) ≡ Some t
    → ((n : ℕ) → ws ≡ decimal n ∷ [] → n ≤ max32 → g n ≡ t → P) → P
amount_then ws g t {P = P} e go = by_amount (amount_of ws) refl e where
  by_amount : (o : Option ℕ) → amount_of ws ≡ o → o >>= (λ n. Some (g n)) ≡ Some t → P
  by_amount None p f = absurd (cc)
  by_amount (Some n) p f = let k = amount_takes ws n p in go n k.words k.fits (same_Some (g n) t f)

drop_takes : (verb : List ℕ) (ws : List (List ℕ)) (t : Fate) → verb ≡ codes "drop" → drop_fate ws ≡ Some t → TakesFate (verb ∷ ws) t
unfolding drop_fate
drop_takes verb [] t v e = absurd (cc)
drop_takes verb (cause ∷ ws) t v e =
    test_takes cause (codes "ring-full") _ _ t e
    (λ w h. amount_then ws (λ n. fates.RingFull n) t h (λ n p k y. subst (TakesFate (verb ∷ cause ∷ ws)) y (record { words = cc; fits = k }))) (λ e1.
    test_takes cause (codes "no-buffer") _ _ t e1
    (λ w h. amount_then ws (λ n. fates.NoBuffer n) t h (λ n p k y. subst (TakesFate (verb ∷ cause ∷ ws)) y (record { words = cc; fits = k }))) (λ e2.
    test_takes cause (codes "too-long") _ _ t e2
    (λ w h. amount_then ws (λ n. fates.TooLong n) t h (λ n p k y. subst (TakesFate (verb ∷ cause ∷ ws)) y (record { words = cc; fits = k }))) (λ e3.
    absurd (cc))))

fate_takes : (ws : List (List ℕ)) (t : Fate) → fate_of ws ≡ Some t → TakesFate ws t
unfolding fate_of
fate_takes [] t e = absurd (cc)
fate_takes (verb ∷ ws) t e =
    test_takes verb (codes "buf") _ _ t e (buf_takes verb ws t) (λ e1.
    test_takes verb (codes "drop") _ _ t e1 (drop_takes verb ws t) (λ e2. absurd (cc)))

fate_then : {A P : Type 0} (ws : List (List ℕ)) (f : Fate → Option A) (x : A) → fate_of ws >>= f ≡ Some x
    → ((t : Fate) → ws ≡ fate_words t → FitsFate t → f t ≡ Some x → P) → P
fate_then {P = P} ws f x e go = by_fate (fate_of ws) refl e where
  by_fate : (o : Option Fate) → fate_of ws ≡ o → o >>= f ≡ Some x → P
  by_fate None p g = absurd (cc)
  by_fate (Some t) p g = let k = fate_takes ws t p in go t k.words k.fits g

-- ---- the words are those of a line that fits
record Takes (ws : List (List ℕ)) (l : Line) : Type 0 where
  pub words : ws ≡ words l
  pub fits : Fits l

head_takes : (verb : List ℕ) (ws : List (List ℕ)) (l : Line) → verb ≡ codes "head" → head_line ws ≡ Some l → Takes (verb ∷ ws) l
unfolding head_line
head_takes verb ws l v1 e0 =
    word_then (codes "2") ws _ l e0 (λ r1 p1 f1. named_number_then (codes "cores") max8 r1 _ l small8 f1 (λ n3 r3 p3 h3 f3. word_then (codes "groups") r3 _ l f3 (λ r4 p4 f4. word_then (codes "512") r4 _ l f4 (λ r5 p5 f5. named_number_then (codes "batch") max16 r5 _ l small16 f5 (λ n7 r7 p7 h7 f7. named_number_then (codes "buffers") max32 r7 _ l small32 f7 (λ n9 r9 p9 h9 f9. end_then r9 (lines.Head (record { cores = n3; batch = n7; buffers = n9 })) l f9 (λ z y. subst (Takes (verb ∷ ws)) y (record { words = cc; fits = (h3, h7, h9) }))))))))

open_takes : (verb : List ℕ) (ws : List (List ℕ)) (l : Line) → verb ≡ codes "settle" → open_line ws ≡ Some l → Takes (verb ∷ ws) l
unfolding open_line
open_takes verb ws l v1 e0 =
    word_then (codes "open") ws _ l e0 (λ r1 p1 f1. end_then r1 lines.Open l f1 (λ z y. subst (Takes (verb ∷ ws)) y (record { words = cc; fits = tt })))

settle_takes : (verb : List ℕ) (ws : List (List ℕ)) (l : Line) → verb ≡ codes "settle" → settle_line ws ≡ Some l → Takes (verb ∷ ws) l
unfolding settle_line
settle_takes verb ws l v1 e0 =
    number_then max64 ws _ l small64 e0 (λ n1 r1 p1 h1 f1. end_then r1 (lines.Entry n1 entries.Settle) l f1 (λ z y. subst (Takes (verb ∷ ws)) y (record { words = cc; fits = (h1, tt) })))

ring_takes : (verb : List ℕ) (ws : List (List ℕ)) (l : Line) → verb ≡ codes "ring" → ring_line ws ≡ Some l → Takes (verb ∷ ws) l
unfolding ring_line
ring_takes verb ws l v1 e0 =
    number_then max64 ws _ l small64 e0 (λ n1 r1 p1 h1 f1. named_number_then (codes "posted") max32 r1 _ l small32 f1 (λ n3 r3 p3 h3 f3. named_number_then (codes "frames") max32 r3 _ l small32 f3 (λ n5 r5 p5 h5 f5. named_number_then (codes "items") max32 r5 _ l small32 f5 (λ n7 r7 p7 h7 f7. end_then r7 (lines.Ring n1 (record { posted = n3; frames = n5; items = n7 })) l f7 (λ z y. subst (Takes (verb ∷ ws)) y (record { words = cc; fits = (h1, h3, h5, h7) }))))))

home_takes : (verb : List ℕ) (ws : List (List ℕ)) (l : Line) → verb ≡ codes "home" → home_line ws ≡ Some l → Takes (verb ∷ ws) l
unfolding home_line
home_takes verb ws l v1 e0 =
    number_then max64 ws _ l small64 e0 (λ n1 r1 p1 h1 f1. named_number_then (codes "pool") max32 r1 _ l small32 f1 (λ n3 r3 p3 h3 f3. named_number_then (codes "posted") max32 r3 _ l small32 f3 (λ n5 r5 p5 h5 f5. named_number_then (codes "desk") max32 r5 _ l small32 f5 (λ n7 r7 p7 h7 f7. named_number_then (codes "held") max32 r7 _ l small32 f7 (λ n9 r9 p9 h9 f9. named_number_then (codes "app") max32 r9 _ l small32 f9 (λ n11 r11 p11 h11 f11. named_number_then (codes "queue") max32 r11 _ l small32 f11 (λ n13 r13 p13 h13 f13. end_then r13 (lines.Home n1 (record { pool = n3; posted = n5; desk = n7; held = n9; app = n11; queue = n13 })) l f13 (λ z y. subst (Takes (verb ∷ ws)) y (record { words = cc; fits = (h1, h3, h5, h7, h9, h11, h13) })))))))))

answered_takes : (verb : List ℕ) (ws : List (List ℕ)) (l : Line) → verb ≡ codes "connect" → answered_line ws ≡ Some l → Takes (verb ∷ ws) l
unfolding answered_line
answered_takes verb ws l v1 e0 =
    number_then max64 ws _ l small64 e0 (λ n1 r1 p1 h1 f1. field_then connect_answer_of r1 _ l f1 (λ n2 w2 r2 p2 q2 f2. end_then r2 (lines.Connect n1 n2) l f2 (λ z y. let u2 = connect_answer_of-takes w2 n2 q2 in subst (Takes (verb ∷ ws)) y (record { words = cc; fits = h1 }))))

time_takes : (verb : List ℕ) (ws : List (List ℕ)) (l : Line) → verb ≡ codes "time" → time_line ws ≡ Some l → Takes (verb ∷ ws) l
unfolding time_line
time_takes verb ws l v1 e0 =
    number_then max64 ws _ l small64 e0 (λ n1 r1 p1 h1 f1. number_then max32 r1 _ l small32 f1 (λ n2 r2 p2 h2 f2. end_then r2 (lines.Entry n1 (entries.Time n2)) l f2 (λ z y. subst (Takes (verb ∷ ws)) y (record { words = cc; fits = (h1, h2) }))))

tag_takes : (verb : List ℕ) (ws : List (List ℕ)) (l : Line) → verb ≡ codes "tag" → tag_line ws ≡ Some l → Takes (verb ∷ ws) l
unfolding tag_line
tag_takes verb ws l v1 e0 =
    number_then max64 ws _ l small64 e0 (λ n1 r1 p1 h1 f1. number_then last_group r1 _ l smallg f1 (λ n2 r2 p2 h2 f2. end_then r2 (lines.Entry n1 (entries.Tag (record { 0 = n2 }))) l f2 (λ z y. subst (Takes (verb ∷ ws)) y (record { words = cc; fits = (h1, h2) }))))

move_takes : (verb : List ℕ) (ws : List (List ℕ)) (l : Line) → verb ≡ codes "move" → move_line ws ≡ Some l → Takes (verb ∷ ws) l
unfolding move_line
move_takes verb ws l v1 e0 =
    number_then max64 ws _ l small64 e0 (λ n1 r1 p1 h1 f1. number_then last_group r1 _ l smallg f1 (λ n2 r2 p2 h2 f2. number_then max8 r2 _ l small8 f2 (λ n3 r3 p3 h3 f3. end_then r3 (lines.Entry n1 (entries.Move (record { 0 = n2 }) (record { 0 = n3 }))) l f3 (λ z y. subst (Takes (verb ∷ ws)) y (record { words = cc; fits = (h1, (h2, h3)) })))))

frame_takes : (verb : List ℕ) (ws : List (List ℕ)) (l : Line) → verb ≡ codes "frame" → frame_line ws ≡ Some l → Takes (verb ∷ ws) l
unfolding frame_line
frame_takes verb ws l v1 e0 =
    number_then max64 ws _ l small64 e0 (λ n1 r1 p1 h1 f1. named_number_then (codes "rec") max32 r1 _ l small32 f1 (λ n3 r3 p3 h3 f3. named_number_then (codes "at") max32 r3 _ l small32 f3 (λ n5 r5 p5 h5 f5. named_number_then (codes "group") last_group r5 _ l smallg f5 (λ n7 r7 p7 h7 f7. named_number_then (codes "ring") max8 r7 _ l small8 f7 (λ n9 r9 p9 h9 f9. fate_then r9 _ l f9 (λ n10 p10 h10 f10. subst (Takes (verb ∷ ws)) (same_Some (lines.Entry n1 (entries.Frame n3 n5 (record { 0 = n7 }) (record { 0 = n9 }) n10)) l f10) (record { words = cc; fits = (h1, (h3, h5, h7, h9, h10)) })))))))

stray_takes : (verb : List ℕ) (ws : List (List ℕ)) (l : Line) → verb ≡ codes "stray" → stray_line ws ≡ Some l → Takes (verb ∷ ws) l
unfolding stray_line
stray_takes verb ws l v1 e0 =
    number_then max32 ws _ l small32 e0 (λ n1 r1 p1 h1 f1. named_number_then (codes "core") max8 r1 _ l small8 f1 (λ n3 r3 p3 h3 f3. kind_then r3 _ l f3 (λ n4 r4 p4 f4. word_then (codes "reply") r4 _ l f4 (λ r5 p5 f5. field_then reply_number_of r5 _ l f5 (λ n6 w6 r6 p6 q6 f6. end_then r6 (lines.Stray (record { w = record { 0 = n1 }; core = record { 0 = n3 }; kind = n4; reply = n6 })) l f6 (λ z y. let t6 = reply_number_of-takes w6 n6 q6 in let u6 = t6.0 in subst (Takes (verb ∷ ws)) y (record { words = cc; fits = (h1, h3, t6.1) })))))))

conn_takes : (verb : List ℕ) (ws : List (List ℕ)) (l : Line) → verb ≡ codes "conn" → conn_line ws ≡ Some l → Takes (verb ∷ ws) l
unfolding conn_line
conn_takes verb ws l v1 e0 =
    number_then last_group ws _ l smallg e0 (λ n1 r1 p1 h1 f1. number_then max64 r1 _ l small64 f1 (λ n2 r2 p2 h2 f2. named_then (codes "remote") dotted_of r2 _ l f2 (λ n4 w4 r4 p4 q4 f4. number_then max16 r4 _ l small16 f4 (λ n5 r5 p5 h5 f5. named_number_then (codes "local") max16 r5 _ l small16 f5 (λ n7 r7 p7 h7 f7. named_then (codes "iss") hex8_of r7 _ l f7 (λ n9 w9 r9 p9 q9 f9. end_then r9 (lines.Conn n2 (record { group = record { 0 = n1 }; remote = n4; remote_port = n5; local_port = n7; iss = n9 })) l f9 (λ z y. let t4 = dotted_of-takes n4 w4 q4 in let u4 = t4.0 in let t9 = hex8_of-takes n9 w9 q9 in let u9 = t9.0 in subst (Takes (verb ∷ ws)) y (record { words = cc; fits = (h1, h2, t4.1, h5, h7, t9.1) }))))))))

seg_takes : (verb : List ℕ) (ws : List (List ℕ)) (l : Line) → verb ≡ codes "seg" → seg_line ws ≡ Some l → Takes (verb ∷ ws) l
unfolding seg_line
seg_takes verb ws l v1 e0 =
    number_then max32 ws _ l small32 e0 (λ n1 r1 p1 h1 f1. named_number_then (codes "core") max8 r1 _ l small8 f1 (λ n3 r3 p3 h3 f3. end_then r3 (lines.Input (inputs.Seg (record { 0 = n1 }) (record { 0 = n3 }))) l f3 (λ z y. subst (Takes (verb ∷ ws)) y (record { words = cc; fits = (h1, h3) }))))

timer_takes : (verb : List ℕ) (ws : List (List ℕ)) (l : Line) → verb ≡ codes "timer" → timer_line ws ≡ Some l → Takes (verb ∷ ws) l
unfolding timer_line
timer_takes verb ws l v1 e0 =
    number_then max64 ws _ l small64 e0 (λ n1 r1 p1 h1 f1. end_then r1 (lines.Input (inputs.Timer n1)) l f1 (λ z y. subst (Takes (verb ∷ ws)) y (record { words = cc; fits = h1 })))

sendv_takes : (verb word : List ℕ) (ws : List (List ℕ)) (l : Line) → verb ≡ codes "call" → word ≡ codes "sendv" → sendv_line ws ≡ Some l → Takes (verb ∷ word ∷ ws) l
unfolding sendv_line
sendv_takes verb word ws l v1 v2 e0 =
    number_then max64 ws _ l small64 e0 (λ n1 r1 p1 h1 f1. end_then r1 (lines.Input (inputs.Sendv n1)) l f1 (λ z y. subst (Takes (verb ∷ word ∷ ws)) y (record { words = cc; fits = h1 })))

recv_done_takes : (verb word : List ℕ) (ws : List (List ℕ)) (l : Line) → verb ≡ codes "call" → word ≡ codes "recv_done" → recv_done_line ws ≡ Some l → Takes (verb ∷ word ∷ ws) l
unfolding recv_done_line
recv_done_takes verb word ws l v1 v2 e0 =
    number_then max32 ws _ l small32 e0 (λ n1 r1 p1 h1 f1. end_then r1 (lines.Input (inputs.RecvDone n1)) l f1 (λ z y. subst (Takes (verb ∷ word ∷ ws)) y (record { words = cc; fits = h1 })))

flush_takes : (verb : List ℕ) (ws : List (List ℕ)) (l : Line) → verb ≡ codes "flush" → flush_line ws ≡ Some l → Takes (verb ∷ ws) l
unfolding flush_line
flush_takes verb ws l v1 e0 =
    number_then max32 ws _ l small32 e0 (λ n1 r1 p1 h1 f1. end_then r1 (lines.Input (inputs.Flush (record { 0 = n1 }))) l f1 (λ z y. subst (Takes (verb ∷ ws)) y (record { words = cc; fits = h1 })))

reply_takes : (verb : List ℕ) (ws : List (List ℕ)) (l : Line) → verb ≡ codes "reply" → reply_line ws ≡ Some l → Takes (verb ∷ ws) l
unfolding reply_line
reply_takes verb ws l v1 e0 =
    number_then max32 ws _ l small32 e0 (λ n1 r1 p1 h1 f1. end_then r1 (lines.Output (outputs.Reply n1)) l f1 (λ z y. subst (Takes (verb ∷ ws)) y (record { words = cc; fits = h1 })))

done_takes : (verb : List ℕ) (ws : List (List ℕ)) (l : Line) → verb ≡ codes "ret" → done_line ws ≡ Some l → Takes (verb ∷ ws) l
unfolding done_line
done_takes verb ws l v1 e0 =
    named_number_then (codes "done") max32 ws _ l small32 e0 (λ n2 r2 p2 h2 f2. end_then r2 (lines.Output (outputs.Ret (rets.Done n2))) l f2 (λ z y. subst (Takes (verb ∷ ws)) y (record { words = cc; fits = h2 })))

refused_takes : (verb : List ℕ) (ws : List (List ℕ)) (l : Line) → verb ≡ codes "ret" → refused_line ws ≡ Some l → Takes (verb ∷ ws) l
unfolding refused_line
refused_takes verb ws l v1 e0 =
    field_then refusal_of ws _ l e0 (λ n1 w1 r1 p1 q1 f1. end_then r1 (lines.Output (outputs.Ret n1)) l f1 (λ z y. subst (Takes (verb ∷ ws)) y (refusal_of-then w1 n1 (λ x. Takes (verb ∷ ws) (lines.Output (outputs.Ret x))) q1 (λ o. record { words = cc; fits = tt }, (λ o. record { words = cc; fits = tt }, (λ o. record { words = cc; fits = tt }, (λ o. record { words = cc; fits = tt }, tt)))))))

connected_takes : (verb word : List ℕ) (ws : List (List ℕ)) (l : Line) → verb ≡ codes "event" → word ≡ codes "connected" → connected_line ws ≡ Some l → Takes (verb ∷ word ∷ ws) l
unfolding connected_line
connected_takes verb word ws l v1 v2 e0 =
    field_then connected_of ws _ l e0 (λ n1 w1 r1 p1 q1 f1. end_then r1 (lines.Output n1) l f1 (λ z y. subst (Takes (verb ∷ word ∷ ws)) y (connected_of-then w1 n1 (λ x. Takes (verb ∷ word ∷ ws) (lines.Output x)) q1 (λ o. record { words = cc; fits = tt }, (λ o. record { words = cc; fits = tt }, (λ o. record { words = cc; fits = tt }, tt))))))

ended_takes : (verb word : List ℕ) (ws : List (List ℕ)) (l : Line) → verb ≡ codes "event" → word ≡ codes "recv" → ended_line ws ≡ Some l → Takes (verb ∷ word ∷ ws) l
unfolding ended_line
ended_takes verb word ws l v1 v2 e0 =
    word_then (codes "end") ws _ l e0 (λ r1 p1 f1. end_then r1 (lines.Output outputs.RecvEnd) l f1 (λ z y. subst (Takes (verb ∷ word ∷ ws)) y (record { words = cc; fits = tt })))

recv_takes : (verb word : List ℕ) (ws : List (List ℕ)) (l : Line) → verb ≡ codes "event" → word ≡ codes "recv" → recv_line ws ≡ Some l → Takes (verb ∷ word ∷ ws) l
unfolding recv_line
recv_takes verb word ws l v1 v2 e0 =
    field_then (place_of max8 max32) ws _ l e0 (λ n1 w1 r1 p1 q1 f1. number_then max16 r1 _ l small16 f1 (λ n2 r2 p2 h2 f2. number_then max16 r2 _ l small16 f2 (λ n3 r3 p3 h3 f3. end_then r3 (lines.Output (outputs.Recv (record { home = record { 0 = n1.0 }; slot = n1.1 }) n2 n3)) l f3 (λ z y. let t1 = place_of-takes max8 max32 n1 w1 small8 small32 q1 in let u1 = t1.0 in subst (Takes (verb ∷ word ∷ ws)) y (record { words = cc; fits = ((t1.1, t1.2), h2, h3) })))))

sent_takes : (verb word : List ℕ) (ws : List (List ℕ)) (l : Line) → verb ≡ codes "event" → word ≡ codes "sent" → sent_line ws ≡ Some l → Takes (verb ∷ word ∷ ws) l
unfolding sent_line
sent_takes verb word ws l v1 v2 e0 =
    number_then max32 ws _ l small32 e0 (λ n1 r1 p1 h1 f1. number_then max32 r1 _ l small32 f1 (λ n2 r2 p2 h2 f2. end_then r2 (lines.Output (outputs.Sent n1 n2)) l f2 (λ z y. subst (Takes (verb ∷ word ∷ ws)) y (record { words = cc; fits = (h1, h2) }))))

dead_takes : (verb word : List ℕ) (ws : List (List ℕ)) (l : Line) → verb ≡ codes "event" → word ≡ codes "dead" → dead_line ws ≡ Some l → Takes (verb ∷ word ∷ ws) l
unfolding dead_line
dead_takes verb word ws l v1 v2 e0 =
    field_then dead_of ws _ l e0 (λ n1 w1 r1 p1 q1 f1. end_then r1 (lines.Output n1) l f1 (λ z y. subst (Takes (verb ∷ word ∷ ws)) y (dead_of-then w1 n1 (λ x. Takes (verb ∷ word ∷ ws) (lines.Output x)) q1 (λ o. record { words = cc; fits = tt }, (λ o. record { words = cc; fits = tt }, tt)))))

left_takes : (verb : List ℕ) (ws : List (List ℕ)) (l : Line) → verb ≡ codes "left" → left_line ws ≡ Some l → Takes (verb ∷ ws) l
unfolding left_line
left_takes verb ws l v1 e0 =
    field_then state_of ws _ l e0 (λ n1 w1 r1 p1 q1 f1. named_number_then (codes "una") max64 r1 _ l small64 f1 (λ n3 r3 p3 h3 f3. named_number_then (codes "nxt") max64 r3 _ l small64 f3 (λ n5 r5 p5 h5 f5. named_number_then (codes "rcv") max64 r5 _ l small64 f5 (λ n7 r7 p7 h7 f7. named_number_then (codes "cwnd") max32 r7 _ l small32 f7 (λ n9 r9 p9 h9 f9. named_number_then (codes "ssthresh") max32 r9 _ l small32 f9 (λ n11 r11 p11 h11 f11. end_then r11 (lines.Left (record { state = n1; una = n3; nxt = n5; rcv = n7; cwnd = n9; ssthresh = n11 })) l f11 (λ z y. let u1 = state_of-takes w1 n1 q1 in subst (Takes (verb ∷ ws)) y (record { words = cc; fits = (h3, h5, h7, h9, h11) }))))))))

answer_takes : (verb : List ℕ) (ws : List (List ℕ)) (l : Line) → verb ≡ codes "answer" → answer_line ws ≡ Some l → Takes (verb ∷ ws) l
unfolding answer_line
answer_takes verb ws l v1 e0 =
    named_number_then (codes "wrote") max64 ws _ l small64 e0 (λ n2 r2 p2 h2 f2. named_number_then (codes "taken") max64 r2 _ l small64 f2 (λ n4 r4 p4 h4 f4. end_then r4 (lines.Answer n2 n4) l f4 (λ z y. subst (Takes (verb ∷ ws)) y (record { words = cc; fits = (h2, h4) }))))

closed_takes : (verb : List ℕ) (ws : List (List ℕ)) (l : Line) → verb ≡ codes "closed" → closed_line ws ≡ Some l → Takes (verb ∷ ws) l
unfolding closed_line
closed_takes verb ws l v1 e0 =
    number_then max64 ws _ l small64 e0 (λ n1 r1 p1 h1 f1. named_number_then (codes "pool") max32 r1 _ l small32 f1 (λ n3 r3 p3 h3 f3. end_then r3 (lines.Closed n1 n3) l f3 (λ z y. subst (Takes (verb ∷ ws)) y (record { words = cc; fits = (h1, h3) }))))

end_takes : (verb : List ℕ) (ws : List (List ℕ)) (l : Line) → verb ≡ codes "end" → end_line ws ≡ Some l → Takes (verb ∷ ws) l
unfolding end_line
end_takes verb ws l v1 e0 =
    named_number_then (codes "replies") max32 ws _ l small32 e0 (λ n2 r2 p2 h2 f2. named_number_then (codes "drops") max32 r2 _ l small32 f2 (λ n4 r4 p4 h4 f4. end_then r4 (lines.End n2 n4) l f4 (λ z y. subst (Takes (verb ∷ ws)) y (record { words = cc; fits = (h2, h4) }))))

or_takes : {P : Type 0} (o p : Option Line) (l : Line) → or_else o p ≡ Some l → (o ≡ Some l → P) → (p ≡ Some l → P) → P
or_takes (Some k) p l e f g = f e
or_takes None p l e f g = g e

-- a line without more words
bare_takes : (front ws : List (List ℕ)) (k l : Line) → at_end ws k ≡ Some l → (ws ≡ [] → front ≡ words k) → Fits k → Takes front l
bare_takes front ws k l e w f = end_then ws k l e (λ z y. subst (Takes front) y (record { words = w z; fits = f }))

call_takes : (verb : List ℕ) (ws : List (List ℕ)) (l : Line) → verb ≡ codes "call" → call_line ws ≡ Some l → Takes (verb ∷ ws) l
unfolding call_line
call_takes verb [] l v e = absurd (cc)
call_takes verb (word ∷ ws) l v e =
    test_takes word (codes "accept") _ _ l e (λ w h. bare_takes (verb ∷ word ∷ ws) ws (lines.Input inputs.Accept) l h (λ z. cc) tt) (λ e1.
    test_takes word (codes "sendv") _ _ l e1 (λ w h. sendv_takes verb word ws l v w h) (λ e2.
    test_takes word (codes "recv_done") _ _ l e2 (λ w h. recv_done_takes verb word ws l v w h) (λ e3.
    test_takes word (codes "close") _ _ l e3 (λ w h. bare_takes (verb ∷ word ∷ ws) ws (lines.Input inputs.Close) l h (λ z. cc) tt) (λ e4.
    absurd (cc)))))

event_takes : (verb : List ℕ) (ws : List (List ℕ)) (l : Line) → verb ≡ codes "event" → event_line ws ≡ Some l → Takes (verb ∷ ws) l
unfolding event_line
event_takes verb [] l v e = absurd (cc)
event_takes verb (word ∷ ws) l v e =
    test_takes word (codes "knock") _ _ l e (λ w h. bare_takes (verb ∷ word ∷ ws) ws (lines.Output outputs.Knock) l h (λ z. cc) tt) (λ e1.
    test_takes word (codes "connected") _ _ l e1 (λ w h. connected_takes verb word ws l v w h) (λ e2.
    test_takes word (codes "recv") _ _ l e2
    (λ w h. or_takes (ended_line ws) (recv_line ws) l h (λ h1. ended_takes verb word ws l v w h1) (λ h1. recv_takes verb word ws l v w h1)) (λ e3.
    test_takes word (codes "sent") _ _ l e3 (λ w h. sent_takes verb word ws l v w h) (λ e4.
    test_takes word (codes "dead") _ _ l e4 (λ w h. dead_takes verb word ws l v w h) (λ e5.
    absurd (cc))))))

journal_takes : (verb : List ℕ) (ws : List (List ℕ)) (l : Line) → journal_line verb ws ≡ Some l → Takes (verb ∷ ws) l
unfolding journal_line
journal_takes verb ws l e =
    test_takes verb (codes "seg") _ _ l e (seg_takes verb ws l) (λ e1.
    test_takes verb (codes "flush") _ _ l e1 (flush_takes verb ws l) (λ e2.
    test_takes verb (codes "call") _ _ l e2 (call_takes verb ws l) (λ e3.
    test_takes verb (codes "ret") _ _ l e3 (λ v h. or_takes (done_line ws) (refused_line ws) l h (done_takes verb ws l v) (refused_takes verb ws l v)) (λ e4.
    test_takes verb (codes "event") _ _ l e4 (event_takes verb ws l) (λ e5.
    test_takes verb (codes "reply") _ _ l e5 (reply_takes verb ws l) (λ e6.
    test_takes verb (codes "timer") _ _ l e6 (timer_takes verb ws l) (λ e7.
    absurd (cc))))))))

entry_takes : (verb : List ℕ) (ws : List (List ℕ)) (l : Line) → entry_line verb ws ≡ Some l → Takes (verb ∷ ws) l
unfolding entry_line
entry_takes verb ws l e =
    test_takes verb (codes "frame") _ _ l e (frame_takes verb ws l) (λ e1.
    test_takes verb (codes "time") _ _ l e1 (time_takes verb ws l) (λ e2.
    test_takes verb (codes "tag") _ _ l e2 (tag_takes verb ws l) (λ e3.
    test_takes verb (codes "move") _ _ l e3 (move_takes verb ws l) (λ e4.
    test_takes verb (codes "settle") _ _ l e4 (λ v h. or_takes (open_line ws) (settle_line ws) l h (open_takes verb ws l v) (settle_takes verb ws l v)) (λ e5.
    test_takes verb (codes "ring") _ _ l e5 (ring_takes verb ws l) (λ e6.
    test_takes verb (codes "home") _ _ l e6 (home_takes verb ws l) (journal_takes verb ws l)))))))

verb_takes : (verb : List ℕ) (ws : List (List ℕ)) (l : Line) → by_verb verb ws ≡ Some l → Takes (verb ∷ ws) l
unfolding by_verb
verb_takes verb ws l e =
    test_takes verb (codes "head") _ _ l e (head_takes verb ws l) (λ e1.
    test_takes verb (codes "connect") _ _ l e1
    (λ v h. or_takes (at_end ws (lines.Input inputs.Connect)) (answered_line ws) l h
    (λ h1. bare_takes (verb ∷ ws) ws (lines.Input inputs.Connect) l h1 (λ z. cc) tt) (answered_takes verb ws l v)) (λ e2.
    test_takes verb (codes "stray") _ _ l e2 (stray_takes verb ws l) (λ e3.
    test_takes verb (codes "conn") _ _ l e3 (conn_takes verb ws l) (λ e4.
    test_takes verb (codes "left") _ _ l e4 (left_takes verb ws l) (λ e5.
    test_takes verb (codes "answer") _ _ l e5 (answer_takes verb ws l) (λ e6.
    test_takes verb (codes "closed") _ _ l e6 (closed_takes verb ws l) (λ e7.
    test_takes verb (codes "end") _ _ l e7 (end_takes verb ws l) (entry_takes verb ws l))))))))

pub line_read-takes : (bs : List ℕ) (l : Line) → line_read bs ≡ Some l → (bs ≡ line_text l) × Fits l
unfolding line_text
line_read-takes bs l e = by_parts (parts 32 bs) e (join-parts 32 bs) where
  by_parts : (ps : List (List ℕ)) → line_of ps ≡ Some l → join 32 ps ≡ bs → (bs ≡ line_text l) × Fits l
  by_parts [] f j = absurd (cc)
  by_parts (verb ∷ ws) f j = let t = verb_takes verb ws l f in (sym j ∙ ap (join 32) t.words, t.fits)
