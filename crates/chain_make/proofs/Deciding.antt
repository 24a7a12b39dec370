-- What stays settles what was left out.
use Rattle.std.proofs.Common.{◌≡◌, ◌↔◌, inl, inr, ℕ, List, ◌++◌, Bool, true, false, All, map, take, drop, refl, sym, ap, ◌∙◌}
use Rattle.dfa_core.specs.Automaton.{Automaton, Accepts}
use Rattle.dfa_core.specs.Traces.{IsTrace}
use Rattle.template_core.specs.Constraints.{IsWellMadeFor}
use Rattle.template_core.specs.Keeping.{KeepsAll}
use Rattle.template_core.specs.declared.constraint.Constraint.{Constraint}
use Rattle.reduce_model.proofs.Consequences.{left_out as left_out_is}
use Rattle.list_dfa.proofs.Keeping.{keeps-append, push-keeps}
use Rattle.reduce_model.proofs.Meaning.{same-traces}
use Rattle.reduce_model.proofs.Writes.{marked-split}
use Rattle.reduce_model.specs.Deciding.{before, is_consistent, is_kept, marked, those}
use Rattle.reduce_model.specs.Reduction.{IsReduced}
use Rattle.reduce_model.specs.declared.decision.Decision.{Decision}
use Rattle.reduce_model.specs.declared.decision.Decision.TheVariants.{Kept, Conflict, Weaker, FirstPass, SecondPass, Beyond, Untested}
use Rattle.chain_make.specs.Claims.{is_conflict, left_out}
use Rattle.chain_make.specs.Chains.{Settles}
use Rattle.chain_make.proofs.Claiming.{left_out-all}

conflict-is : (d : Decision) → is_conflict d ≡ true → d ≡ Conflict
conflict-is Kept e = absurd (cc e)
conflict-is Conflict e = refl
conflict-is (Weaker by) e = absurd (cc e)
conflict-is FirstPass e = absurd (cc e)
conflict-is SecondPass e = absurd (cc e)
conflict-is Beyond e = absurd (cc e)
conflict-is Untested e = absurd (cc e)

keeps-front : (marks : List Bool) (list : List Constraint) (w : List ℕ) (place : ℕ) → KeepsAll (marked marks list) w → KeepsAll (marked (take place marks) (take place list)) w
keeps-front marks list w place all =
    let split : KeepsAll (marked (take place marks) (take place list) ++ marked (drop place marks) (drop place list)) w = rw (marked-split marks list place) at all in
    ((keeps-append (marked (take place marks) (take place list)) (marked (drop place marks) (drop place list)) w).0 split).0

pub settles-all : (n : ℕ) (list : List Constraint) (ds : List Decision) (a : Automaton) → All (IsWellMadeFor n) list → IsReduced n list ds → a.symbols ≡ n
    → ((w : List ℕ) → IsTrace n w → Accepts a w ↔ KeepsAll (those is_kept list ds) w) → All (Settles a) (left_out list ds)
settles-all n list ds a made h over keeps = left_out-all (Settles a) list ds (λ place c d at kept.
    let model : (w : List ℕ) → IsTrace a.symbols w → Accepts a w → KeepsAll (those is_kept list ds) w = λ w tw yes. (keeps w (rw over at tw)).0 yes in
    let not_kept : d ≡ Kept → ⊥ = λ e. let k : true ≡ false = sym (ap is_kept e) ∙ kept in cc in
    record {
      implied = λ free w tw yes. elim (left_out_is n list ds made h place c d at not_kept) [
        | inl none ↦ let e : d ≡ Conflict = (h.conflicts place c d at).1 none in let k : true ≡ false = sym (ap is_conflict e) ∙ free in absurd (cc)
        | inr implies ↦ implies w (rw over at tw) (model w tw yes)
      ];
      conflict = λ marked_so w tw yes one.
          let none = (h.conflicts place c d at).0 (conflict-is d marked_so) in
          let tw2 : IsTrace n w = rw over at tw in
          let all : KeepsAll (those is_consistent list ds) w = (same-traces n list ds made h w tw2).0 (model w tw yes) in
          none w tw2 (push-keeps (before is_consistent place list ds) c w (keeps-front (map is_consistent ds) list w place all) one);
    })
