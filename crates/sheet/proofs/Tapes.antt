-- Carrying out a list of steps, from the contract of one call.
use Rattle.std.proofs.Common.{◌≡◌, ℕ, ◌+◌, ◌<◌, ◌≤◌, List, [], ◌∷◌, ◌++◌, map, reverse, length, get_or, take, set, sym, refl, ap, ◌∙◌, subst, take_all}
use Rattle.std.proofs.Math.Seq.{map-set_same}
use Rattle.std.proofs.lemmas.List.{map-append, reverse-append, take_more_set}
use Rattle.arithmetic.specs.Arithmetic.{Arithmetic}
use Rattle.sheet.specs.declared.replay.Command.{Command}
use Rattle.sheet.specs.declared.replay.Command.TheVariants.{Lay, Enter, Work, Read, Clear}
use Rattle.sheet.specs.declared.replay.TwinStep.{TwinStep}
use Rattle.sheet.specs.Pegs.{Sheet}
use Rattle.sheet.specs.Histories.{Event, History, Reached, Kept, SameCall, SameCalls}
use Rattle.sheet.specs.Lists.{call_of, left_event, right_event, history_of, calls_of, CarriedOut, BothCarriedOut}
use Rattle.sheet.proofs.Promised.{stands, same}

module _ {X : Type 0} (event : X → Event) where
  history_more : (l : List X) (i : ℕ) (v : X) → i < length l → history_of event (take (i + 1) (set l i v)) ≡ event v ∷ history_of event (take i l)
  history_more l i v h =
      ap (history_of event) (take_more_set l i v h) ∙ ap reverse (map-append event (take i l) (v ∷ [])) ∙ reverse-append (map event (take i l)) (event v ∷ [])

  -- the first i steps were carried out
  pub record Sofar (list : List X) (i : ℕ) (now-is : List X) (t : Sheet) : Type 0 where
    pub calls : calls_of event now-is ≡ calls_of event list
    pub reached : Reached (history_of event (take i now-is)) t

  pub sofar_more : (list l : List X) (i : ℕ) (s t : Sheet) (v d : X) → i < length l → (event v).call ≡ (event (get_or l i d)).call → Kept s (event v).call (event v).answer t → Sofar list i l s → Sofar list (i + 1) (set l i v) t
  sofar_more list l i s t v d h e k w =
      record { calls = map-set_same (λ x. (event x).call) l i v d e ∙ w.calls; reached = subst (λ g. Reached g t) (sym (history_more l i v h)) (k.reached (history_of event (take i l)) w.reached) }

  pub carried_out : (s : Sheet) (list : List X) (n i : ℕ) (t : Sheet) (done : List X) → n ≡ length s → length t ≡ length s → length done ≤ i → Sofar list i done t → CarriedOut event s list n t done
  carried_out s list n i t done e z h w =
      let r : Reached (history_of event done) t = subst (λ l. Reached (history_of event l) t) (take_all i done h) w.reached in
      record { number = e; size = z; calls = w.calls; reached = r; stands = stands r; agrees = λ g u q al f. same q r al f }

-- ---- one list for two sheets

same_append : (g h g' h' : History) → SameCalls g h → SameCalls g' h' → SameCalls (g ++ g') (h ++ h')
same_append [] [] g' h' p q = q
same_append [] (f ∷ h) g' h' p q = absurd p
same_append (e ∷ g) [] g' h' p q = absurd p
same_append (e ∷ g) (f ∷ h) g' h' p q = (p.0, same_append g h g' h' p.1 q)

same_command : (a b : Arithmetic) (c : Command) → SameCall (call_of a c) (call_of b c)
same_command a b Lay = refl
same_command a b (Enter p c x) = refl
same_command a b (Work f n) = (b, refl)
same_command a b (Read p) = refl
same_command a b (Clear p) = refl

module _ {A B : Type 0} (m : A → Arithmetic) (n : B → Arithmetic) where
  same_list : (l : List (TwinStep A B)) → SameCalls (history_of (left_event m) l) (history_of (right_event n) l)
  same_list [] = tt
  same_list (x ∷ l) =
      subst (λ g. SameCalls g (history_of (right_event n) (x ∷ l))) (sym (reverse-append (left_event m x ∷ []) (map (left_event m) l)))
      (subst (λ h. SameCalls (history_of (left_event m) l ++ (left_event m x ∷ [])) h) (sym (reverse-append (right_event n x ∷ []) (map (right_event n) l)))
      (same_append (history_of (left_event m) l) (history_of (right_event n) l) (left_event m x ∷ []) (right_event n x ∷ []) (same_list l) (same_command (m x.left_arith) (n x.right_arith) x.command, tt)))

  pub both_carried_out : (s u : Sheet) (list : List (TwinStep A B)) (r : ℕ × ℕ) (t w : Sheet) (done : List (TwinStep A B)) → CarriedOut (left_event m) s list r.0 t done → CarriedOut (right_event n) u list r.1 w done → BothCarriedOut m n s u list r t w done
  both_carried_out s u list r t w done x y = record { left = x; right = y; same = λ e. same x.reached y.reached (same_list done) (x.size ∙ e ∙ sym y.size) }
