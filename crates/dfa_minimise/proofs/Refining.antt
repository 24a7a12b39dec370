-- What a cut keeps of what is known of the classes.
use Rattle.std.proofs.Common.{◌≡◌, inl, inr, ℕ, ◌+◌, ◌<◌, ◌≤◌, List, [], ◌∷◌, get_or, eqb, sym, ap, ◌∙◌, arith}
use Rattle.std.proofs.lemmas.Bool.{cases_eq}
use Rattle.dfa_core.specs.Automaton.{Automaton, IsWhole, is_accepting, run, state_count, step, step_column}
use Rattle.dfa_core.specs.Columns.{HasSymbols}
use Rattle.dfa_minimise.proofs.Progress.{IsStableBelow}
use Rattle.dfa_minimise.specs.Partitions.{IsCut, is_in}
use Rattle.dfa_minimise.specs.Classes.{AreAccepting, LeadTo, IsSound}

-- accepting states and others
pub sound-accepting : (a : Automaton) (count : ℕ) (states old new : List ℕ) → ((q : ℕ) → get_or old q 0 ≡ 0) → AreAccepting a states → IsCut (state_count a) count states old new → IsSound a new
sound-accepting a count states old new one k s = record {
  apart = λ q r lq lr ne. record {
    by = [];
    over = tt;
    differs = λ e. s.parts q r lq lr (one q ∙ sym (one r)) ne (k.are q lq ∙ (e ∙ sym (k.are r lr)));
  };
  alike = λ q r lq lr e. sym (k.are q lq) ∙ (s.together q r lq lr e ∙ k.are r lr);
}

-- What is known while the columns of a splitter are gone through: `was` is the classes when it was begun.
pub record IsBeingSplit (a : Automaton) (count splitter column : ℕ) (was class : List ℕ) : Type 0 where
  pub sound : IsSound a class
  pub stable : IsStableBelow a class splitter
  pub refines : (q r : ℕ) → q < state_count a → r < state_count a → get_or class q 0 ≡ get_or class r 0 → get_or was q 0 ≡ get_or was r 0
  pub stays : (q : ℕ) → q < state_count a → get_or class q 0 < count → get_or class q 0 ≡ get_or was q 0
  pub together : (y q r : ℕ) → y < column → q < state_count a → r < state_count a → get_or class q 0 ≡ get_or class r 0
      → eqb (get_or was (step_column a q y) 0) splitter ≡ eqb (get_or was (step_column a r y) 0) splitter

pub split-more : (a : Automaton) (count now splitter x : ℕ) (inside states was old new : List ℕ) → IsWhole a → x < a.width → count ≤ now → splitter < count
    → ((q : ℕ) → q < state_count a → is_in inside q ≡ eqb (get_or was q 0) splitter) → HasSymbols a → LeadTo a x inside states → IsCut (state_count a) now states old new
    → IsBeingSplit a count splitter x was old → IsBeingSplit a count splitter (x + 1) was new
unfolding step
split-more a count now splitter x inside states was old new whole lx grows low k has t s h =
    let touched : (q : ℕ) → q < state_count a → is_in states q ≡ eqb (get_or was (step_column a q x) 0) splitter = λ q lq. t.are q lq ∙ k (step_column a q x) (whole.entry_bound q x lq lx) in
    record {
      sound = record {
        apart = λ q r lq lr ne. elim (cases_eq (get_or old q 0) (get_or old r 0)) [
          | inl same ↦
              let further = h.sound.apart (step_column a q x) (step_column a r x) (whole.entry_bound q x lq lx) (whole.entry_bound r x lr lx)
              (λ e. s.parts q r lq lr same ne (touched q lq ∙ (in_splitter (step_column a q x) (step_column a r x) (whole.entry_bound q x lq lx) (whole.entry_bound r x lr lx) e ∙ sym (touched r lr)))) in
              record {
                by = has.symbol x ∷ further.by;
                over = (has.bound x lx, further.over);
                differs = λ e. further.differs (sym (leads q further.by) ∙ (e ∙ leads r further.by));
              }
          | inr other ↦ h.sound.apart q r lq lr other
        ];
        alike = λ q r lq lr e. h.sound.alike q r lq lr (s.refines q r lq lr e);
      };
      stable = record {
        stable = λ q r y lq lr ly e mq mr.
            let sq = s.stays (step_column a q y) (whole.entry_bound q y lq ly) (omega arith) in
            let sr = s.stays (step_column a r y) (whole.entry_bound r y lr ly) (omega arith) in
            sq ∙ (h.stable.stable q r y lq lr ly (s.refines q r lq lr e) (omega arith) (omega arith) ∙ sym sr);
      };
      refines = λ q r lq lr e. h.refines q r lq lr (s.refines q r lq lr e);
      stays = λ q lq m. let sq = s.stays q lq (omega arith) in sq ∙ h.stays q lq (omega arith);
      together = λ y q r ly lq lr e. elim (cases_eq y x) [
        | inl same ↦ rw same (sym (touched q lq) ∙ (s.together q r lq lr e ∙ touched r lr))
        | inr ne ↦ h.together y q r (omega arith) lq lr (s.refines q r lq lr e)
      ];
    }
  where
    -- a symbol of the column leads where the column does
    leads : (q : ℕ) (w : List ℕ) → is_accepting a (run a (step a q (has.symbol x)) w) ≡ is_accepting a (run a (step_column a q x) w)
    leads q w = ap (λ (k : ℕ). is_accepting a (run a (step_column a q k) w)) (has.of x lx)

    in_splitter : (p o : ℕ) → p < state_count a → o < state_count a → get_or old p 0 ≡ get_or old o 0 → eqb (get_or was p 0) splitter ≡ eqb (get_or was o 0) splitter
    in_splitter p o lp lo e = ap (λ (c : ℕ). eqb c splitter) (h.refines p o lp lo e)

-- with all columns gone through, one class more is done
pub split-all : (a : Automaton) (count splitter : ℕ) (was class : List ℕ) → IsWhole a → splitter < count → IsBeingSplit a count splitter a.width was class → IsStableBelow a class (splitter + 1)
split-all a count splitter was class whole low h = record {
  stable = λ q r x lq lr lx e mq mr.
      let lsq = whole.entry_bound q x lq lx in
      let lsr = whole.entry_bound r x lr lx in
      let sq = h.stays (step_column a q x) lsq (omega arith) in
      let sr = h.stays (step_column a r x) lsr (omega arith) in
      let t : eqb (get_or class (step_column a q x) 0) splitter ≡ eqb (get_or class (step_column a r x) 0) splitter = rw (sq, sr) (h.together x q r lx lq lr e) in
      elim (cases_eq (get_or class (step_column a q x) 0) splitter) [
        | inl is ↦ let m : get_or class (step_column a r x) 0 ≡ splitter = grind (arith, t, is) in is ∙ sym m
        | inr ne ↦ elim (cases_eq (get_or class (step_column a r x) 0) splitter) [
          | inl is2 ↦ let m : get_or class (step_column a q x) 0 ≡ splitter = grind (arith, t, is2) in m ∙ sym is2
          | inr ne2 ↦ h.stable.stable q r x lq lr lx e (omega arith) (omega arith)
        ]
      ];
}
