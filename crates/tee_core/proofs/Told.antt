-- What is told of happenings, and the marks that are read off it.
use Rattle.std.proofs.Common.{ℕ, ◌≡◌, ◌≢◌, ◌==◌, ◌+◌, ◌&&◌, Bool, true, false, List, [], ◌∷◌, ◌++◌, refl, sym, ap, ◌∙◌, append-nil, arith}
use Rattle.std.specs.Prelude.{◌||◌}
use Rattle.std.proofs.Math.Bool.{or-false}
use Rattle.std.proofs.lemmas.Bool.{cond_both, eq-eqb, ne_eqb}
use Rattle.std.proofs.lemmas.List.Folds.{list_any-append}
use Rattle.alone.specs.declared.turn.TurnKind.{TurnKind}
use Rattle.alone.specs.declared.turn.TurnKind.TheVariants as kinds
use Rattle.alone.specs.declared.reply.Reply.{Reply}
use Rattle.alone.specs.Marks.{SameAt}
use Rattle.tee_core.specs.declared.happened.Happened.{Happened}
use Rattle.tee_core.specs.Happenings.{IsPlainBehind, is_corrupt_turn, is_lost_turn, is_starved_turn, is_told, marks_of, has_told, append_if_told}

-- one more told
tells_more : (went : TurnKind → Bool) (told : List Happened) (h : Happened) (turn : ℕ) → has_told went (told ++ h ∷ []) turn ≡ (has_told went told turn || (went h.kind && h.turn == turn))
tells_more went told h turn =
    list_any-append (λ x. went x.kind && x.turn == turn) told (h ∷ [])
    ∙ ap (λ b. has_told went told turn || b) (or-false (went h.kind && h.turn == turn))

and_no : (b : Bool) → (b && false) ≡ false
and_no true = refl
and_no false = refl

and_yes : (b : Bool) → (b && true) ≡ b
and_yes true = refl
and_yes false = refl

-- a happening of another turn tells nothing of this one
pub tells_other : (went : TurnKind → Bool) (told : List Happened) (h : Happened) (turn : ℕ) → h.turn ≢ turn → has_told went (append_if_told told h) turn ≡ has_told went told turn
tells_other went told h turn other =
    cond_both (is_told h) (h ∷ []) [] (λ hs. has_told went (told ++ hs) turn ≡ has_told went told turn)
    (λ _. tells_more went told h turn
    ∙ ap (λ b. has_told went told turn || (went h.kind && b)) (ne_eqb h.turn turn other)
    ∙ ap (λ b. has_told went told turn || b) (and_no (went h.kind))
    ∙ or-false (has_told went told turn))
    (λ _. ap (λ hs. has_told went hs turn) (append-nil told))

-- one of this turn says how it went, where none did before; one that isn't told is plain
pub tells_here : (went : TurnKind → Bool) (told : List Happened) (h : Happened) (turn : ℕ) → h.turn ≡ turn → has_told went told turn ≡ false
    → (is_told h ≡ false → went h.kind ≡ false) → has_told went (append_if_told told h) turn ≡ went h.kind
tells_here went told h turn same none quiet =
    cond_both (is_told h) (h ∷ []) [] (λ hs. has_told went (told ++ hs) turn ≡ went h.kind)
    (λ _. tells_more went told h turn
    ∙ ap (λ b. b || (went h.kind && h.turn == turn)) none
    ∙ ap (λ b. went h.kind && b) (eq-eqb h.turn turn same)
    ∙ and_yes (went h.kind))
    (λ untold. ap (λ hs. has_told went hs turn) (append-nil told) ∙ none ∙ sym (quiet untold))

-- what isn't told is plain
lost_quiet : (kind : TurnKind) (replies : List Reply) → is_told (record { kind = kind; turn = 0; op = 0; instance = 0; replies = replies }) ≡ false → is_lost_turn kind ≡ false
lost_quiet kinds.Plain replies untold = refl
lost_quiet (kinds.Lost change) replies untold = untold
lost_quiet kinds.Starved replies untold = refl
lost_quiet kinds.Corrupted replies untold = refl

corrupt_quiet : (kind : TurnKind) (replies : List Reply) → is_told (record { kind = kind; turn = 0; op = 0; instance = 0; replies = replies }) ≡ false → is_corrupt_turn kind ≡ false
corrupt_quiet kinds.Plain replies untold = refl
corrupt_quiet (kinds.Lost change) replies untold = refl
corrupt_quiet kinds.Starved replies untold = refl
corrupt_quiet kinds.Corrupted replies untold = untold

starved_quiet : (kind : TurnKind) (replies : List Reply) → is_told (record { kind = kind; turn = 0; op = 0; instance = 0; replies = replies }) ≡ false → is_starved_turn kind ≡ false
starved_quiet kinds.Plain replies untold = refl
starved_quiet (kinds.Lost change) replies untold = refl
starved_quiet kinds.Starved replies untold = untold
starved_quiet kinds.Corrupted replies untold = refl

-- the turns before it are marked as they were
pub behind_before : (told : List Happened) (h : Happened) (turn : ℕ) → h.turn ≢ turn → SameAt turn (marks_of (append_if_told told h)) (marks_of told)
behind_before told h turn other = record {
  lost = tells_other is_lost_turn told h turn other;
  corrupt = tells_other is_corrupt_turn told h turn other;
  starved = tells_other is_starved_turn told h turn other;
}

-- the turn itself is marked as it went
pub record WentSo (kind : TurnKind) (turn : ℕ) (told : List Happened) : Type 0 where
  pub lost : (marks_of told).lost turn ≡ is_lost_turn kind
  pub corrupt : (marks_of told).corrupt turn ≡ is_corrupt_turn kind
  pub starved : (marks_of told).starved turn ≡ is_starved_turn kind

pub behind_here : (told : List Happened) (h : Happened) (turns : ℕ) → h.turn ≡ turns + 1 → IsPlainBehind turns told → WentSo h.kind (turns + 1) (append_if_told told h)
behind_here told h turns here plain =
    let none = plain (turns + 1) (omega arith) in
    record {
      lost = tells_here is_lost_turn told h (turns + 1) here none.lost (λ untold. lost_quiet h.kind h.replies untold);
      corrupt = tells_here is_corrupt_turn told h (turns + 1) here none.corrupt (λ untold. corrupt_quiet h.kind h.replies untold);
      starved = tells_here is_starved_turn told h (turns + 1) here none.starved (λ untold. starved_quiet h.kind h.replies untold);
    }

-- and none behind it is marked
pub behind_plain : (told : List Happened) (h : Happened) (turns : ℕ) → h.turn ≡ turns + 1 → IsPlainBehind turns told → IsPlainBehind (turns + 1) (append_if_told told h)
behind_plain told h turns here plain = λ turn later.
    let other : h.turn ≢ turn = λ same. absurd (omega (arith, here, same, later)) in
    let before = behind_before told h turn other in
    let none = plain turn (omega (arith, later)) in
    record { lost = before.lost ∙ none.lost; corrupt = before.corrupt ∙ none.corrupt; starved = before.starved ∙ none.starved }

-- a call alone marks no turn
pub call_plain : (h : Happened) (turns : ℕ) → h.kind ≡ kinds.Plain → IsPlainBehind turns ([] ++ h ∷ [])
call_plain h turns plain = λ turn later. record {
  lost = ap (λ k. (is_lost_turn k && h.turn == turn) || false) plain;
  corrupt = ap (λ k. (is_corrupt_turn k && h.turn == turn) || false) plain;
  starved = ap (λ k. (is_starved_turn k && h.turn == turn) || false) plain;
}
