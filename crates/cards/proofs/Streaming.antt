-- A stream is played from the front on, and may be cut between two cards.
use Rattle.std.proofs.Common.{◌≡◌, ℕ, ◌+◌, ◌-◌, ◌*◌, ◌/◌, ◌<◌, ◌≤◌, min, List, [], ◌∷◌, ◌++◌, length, take, drop, set, sym, ap, ◌∙◌, subst, arith}
use Rattle.std.proofs.lemmas.List.{take_at, take_min, drop_at, drop_min, drop_all, take_more_set, drop-set-lt, length-drop, length-append, append-nil, append_assoc, take-append-le, drop-append-le}
use Rattle.arithmetic.specs.Arithmetic.{Arithmetic}
use Rattle.sheet.specs.Pegs.{Sheet}
use Rattle.sheet.specs.Calls.{Answer}
use Rattle.cards.specs.Format.{reply_of}
use Rattle.cards.specs.declared.counts.Counts.{Counts}
use Rattle.cards.specs.Runs.{Takes}
use Rattle.cards.specs.Streams.{Streamed, ended, next, StreamsJoin}

-- The first i cards were played, and left are the bytes after them: whatever those do, the whole stream does after the i cards.
pub record Sofar (a : Arithmetic) (bytes : List ℕ) (n : Counts) (s : Sheet) (slots : List (List ℕ)) (cards i : ℕ) (left : List ℕ) (filled : List (List ℕ)) (t : Sheet) (m : Counts) : Type 0 where
  pub on : (rest : List (List ℕ)) (u : Sheet) (k : Counts) → Streamed a left m t rest u k → Streamed a bytes n s (take i filled ++ rest) u k
  pub others : drop cards filled ≡ drop cards slots
  pub still : cards ≡ i + (length left + 5) / 6

pub sofar_more : (a : Arithmetic) (bytes : List ℕ) (n : Counts) (s : Sheet) (slots : List (List ℕ)) (cards i : ℕ) (left card after : List ℕ) (filled : List (List ℕ)) (t u : Sheet) (m k : Counts) (r : Answer) (v : List ℕ) → left ≡ card ++ after → length card ≡ min 6 (length left) → 0 < length left → i < length filled → v ≡ reply_of r → Takes a card m t r u k → Sofar a bytes n s slots cards i left filled t m → Sofar a bytes n s slots cards (i + 1) after (set filled i v) u k
sofar_more a bytes n s slots cards i left card after filled t u m k r v parts size some in-slots e p w =
    let still = w.still in
    let front : take 6 left ≡ card = sym (take_min 6 left) ∙ ap (take (min 6 (length left))) parts ∙ take_at card after _ size in
    let back : drop 6 left ≡ after = sym (drop_min 6 left) ∙ ap (drop (min 6 (length left))) parts ∙ drop_at card after _ size in
    let one : (rest : List (List ℕ)) (z : Sheet) (j : Counts) → Streamed a after k u rest z j → Streamed a left m t (v ∷ rest) z j =
    λ rest z j q.
    subst (λ x. Streamed a left m t (x ∷ rest) z j) (sym e) (next r some (subst (λ x. Takes a x m t r u k) (sym front) p) (subst (λ x. Streamed a x k u rest z j) (sym back) q))
    in
    record {
      on = λ rest z j q. subst (λ x. Streamed a bytes n s x z j) (sym (ap (λ x. x ++ rest) (take_more_set filled i v in-slots) ∙ append_assoc (take i filled) (v ∷ []) rest)) (w.on (v ∷ rest) z j (one rest z j q));
      others = drop-set-lt cards filled i v (omega arith) ∙ w.others;
      still = omega (arith, length-append card after, ap length parts);
    }

pub played : (a : Arithmetic) (bytes : List ℕ) (n : Counts) (s : Sheet) (slots : List (List ℕ)) (cards i : ℕ) (left : List ℕ) (filled : List (List ℕ)) (t : Sheet) (m : Counts) → length left ≡ 0 → Sofar a bytes n s slots cards i left filled t m → Streamed a bytes n s (take cards filled) t m
played a bytes n s slots cards i left filled t m none w =
    let still = w.still in
    let whole : Streamed a bytes n s (take i filled ++ []) t m = w.on [] t m (subst (λ x. Streamed a x m t [] t m) {x = []} {y = left} (sym (drop_all 0 left (omega arith))) ended) in
    subst (λ x. Streamed a bytes n s x t m) (append-nil (take i filled) ∙ ap (λ x. take x filled) {x = i} {y = cards} (omega arith)) whole

-- ---- two streams
join : {a : Arithmetic} {front : List ℕ} {n m : Counts} {s t : Sheet} {first : List (List ℕ)} (cards : ℕ) → length front ≡ 6 * cards → Streamed a front n s first t m → (back : List ℕ) (u : Sheet) (k : Counts) (second : List (List ℕ)) → Streamed a back m t second u k → Streamed a (front ++ back) n s (first ++ second) u k
join cards e ended back u k second q = q
join {a = a} {front = front} cards e (next {replies = replies} {n = n} {m = m} {s = s} {t = t} r some p w) back u k second q =
    let long : 6 ≤ length front = omega arith in
    let size = length-append front back in
    let left = length-drop 6 front in
    let rest = join (cards - 1) (omega arith) w back u k second q in
    next r (omega arith) (subst (λ x. Takes a x n s r t m) (sym (take-append-le 6 front back long)) p) (subst (λ x. Streamed a x m t (replies ++ second) u k) (sym (drop-append-le 6 front back long)) rest)

pub streams_join_lem : StreamsJoin
streams_join_lem a front back n m k s t u first second cards e p q = join cards e p back u k second q
