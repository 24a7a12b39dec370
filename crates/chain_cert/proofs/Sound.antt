-- A right certificate shows what it says: each link accepts the traces that keep the constraints so far, so the last one accepts those that keep the model.
use Rattle.std.proofs.Common.{◌≡◌, ℕ, zero, suc, ◌<◌, ◌≤◌, List, [], ◌∷◌, ◌++◌, length, Bool, true, false, not, refl, sym, ap, ◌∙◌, arith, subst}
use Rattle.std.proofs.lemmas.Bool.{false≢true}
use Rattle.std.proofs.lemmas.List.Elements.{All-contains, All-from_get_or, recursion_from_All, All-from_recursion}
use Rattle.template_core.specs.Constraints.{IsWellMade}
use Rattle.template_core.specs.Tables.{accepts_at, class, keeps_by, step as table_step, table_run}
use Rattle.template_core.specs.declared.constraint.Constraint.{Constraint}
use Rattle.template_core.specs.declared.table.Table.{Table}
use Rattle.chain_cert.specs.Checks.{Decides, HoldsOfEach, IsLinked, IsRight, Relates, step_pair, step_triple}
use Rattle.chain_cert.specs.Forms.{Holds, IsClaim, left, middle, right}
use Rattle.template_core.specs.Keeping.{KeepsAll, KeepsOne}
use Rattle.chain_cert.specs.Traces.{IsTrace}
use Rattle.chain_cert.specs.Links.{accepts, before, is_accepting, last, run, step, whole}
use Rattle.chain_cert.specs.Parts.{ChainParts, ClaimParts, LinkParts, constraint_at, dropped_at, list_at, no_constraint, no_dropped}
use Rattle.chain_cert.specs.Soundness.{AreConflicts, AreNeeded, IsKept, KeepsSame, consistent}
use Rattle.chain_cert.specs.declared.claim.Dropped.{Dropped}
use Rattle.chain_cert.proofs.Whole.{step-first}

-- ---- traces along triples and pairs

triples-follow : (symbols : ℕ) (automaton : LinkParts) (c : Constraint) (table : Table) (link : LinkParts) → Relates symbols automaton c table link → (w : List ℕ) → IsTrace symbols w → (p t q : ℕ)
    → Holds link.pairs (p ∷ t ∷ q ∷ []) → Holds link.pairs (run automaton p w ∷ table_run table c t w ∷ run link q w ∷ [])
triples-follow symbols automaton c table link is [] over p t q here = here
triples-follow symbols automaton c table link is (s ∷ w) over p t q here =
    triples-follow symbols automaton c table link is w over.1 (step automaton p s) (table_step table t (class c s)) (step link q s)
    (All-contains (λ triple. Holds link.pairs (step_triple automaton table c link s triple)) link.pairs (p ∷ t ∷ q ∷ []) (is.closed s over.0).each here.is_one)

link-accepts : (symbols : ℕ) (automaton : LinkParts) (c : Constraint) (table : Table) (link : LinkParts) → Relates symbols automaton c table link → (w : List ℕ) → IsTrace symbols w
    → accepts automaton w ≡ true → keeps_by table c w ≡ true → accepts link w ≡ true
link-accepts symbols automaton c table link is w over by_automaton by_table =
    let ends = triples-follow symbols automaton c table link is w over 0 table.start 0 is.starts in
    All-contains (λ triple. is_accepting automaton (left triple) ≡ true → accepts_at table (middle triple) ≡ true → is_accepting link (right triple) ≡ true) link.pairs
    (run automaton 0 w ∷ table_run table c table.start w ∷ run link 0 w ∷ []) is.accepts ends.is_one by_automaton by_table

pairs-follow : (symbols : ℕ) (automaton : LinkParts) (d : Dropped) (table : Table) (pairs : List (List ℕ)) → Decides symbols automaton d table pairs → (w : List ℕ) → IsTrace symbols w → (q t : ℕ)
    → Holds pairs (q ∷ t ∷ []) → Holds pairs (run automaton q w ∷ table_run table d.constraint t w ∷ [])
pairs-follow symbols automaton d table pairs is [] over q t here = here
pairs-follow symbols automaton d table pairs is (s ∷ w) over q t here =
    pairs-follow symbols automaton d table pairs is w over.1 (step automaton q s) (table_step table t (class d.constraint s))
    (All-contains (λ pair. Holds pairs (step_pair automaton table d.constraint s pair)) pairs (q ∷ t ∷ []) (is.closed s over.0).each here.is_one)

pairs-decide : (symbols : ℕ) (automaton : LinkParts) (d : Dropped) (table : Table) (pairs : List (List ℕ)) → Decides symbols automaton d table pairs → (w : List ℕ) → IsTrace symbols w
    → accepts automaton w ≡ true → keeps_by table d.constraint w ≡ not d.conflict
pairs-decide symbols automaton d table pairs is w over by_automaton =
    let ends = pairs-follow symbols automaton d table pairs is w over 0 table.start is.starts in
    All-contains (λ pair. is_accepting automaton (left pair) ≡ true → accepts_at table (middle pair) ≡ not d.conflict) pairs (run automaton 0 w ∷ table_run table d.constraint table.start w ∷ [])
    is.accepts ends.is_one by_automaton

-- ---- along the chain

whole-runs : (w : List ℕ) → run whole 0 w ≡ 0
whole-runs [] = refl
whole-runs (s ∷ w) = ap (λ q. run whole q w) (sym (step-first [] 0 0 s refl (omega arith))) ∙ whole-runs w

made-at : (claim : ClaimParts) → IsClaim claim → (i : ℕ) → i < length claim.model → IsWellMade (constraint_at claim.model i).kind (constraint_at claim.model i).first (constraint_at claim.model i).second
made-at claim form i there = (form.constraints_made i no_constraint there).made

chain-accepts : (claim : ClaimParts) (chain : ChainParts) → IsClaim claim → HoldsOfEach (IsLinked claim chain) (length claim.model) → (w : List ℕ) → IsTrace claim.symbols w
    → ((j : ℕ) → j < length claim.model → KeepsOne (constraint_at claim.model j) w) → (i : ℕ) → i ≤ length claim.model → accepts (before chain.links i) w ≡ true
chain-accepts claim chain form linked w over keeps zero within = ap (is_accepting whole) (whole-runs w)
chain-accepts claim chain form linked w over keeps (suc i) within =
    let there : i < length claim.model = omega arith in
    let link = linked i there in
    let c = constraint_at claim.model i in
    link-accepts claim.symbols (before chain.links i) c link.table (before chain.links (suc i)) link.relates w over
    (chain-accepts claim chain form linked w over keeps i (omega arith)) ((link.table_is.accepts c w (made-at claim form i there)).1 (keeps i there))

-- ---- lists of constraints

keeps-each : (model : List Constraint) (w : List ℕ) → KeepsAll model w → (j : ℕ) → j < length model → KeepsOne (constraint_at model j) w
keeps-each model w all j there = All-from_recursion (λ c. KeepsOne c w) model all j no_constraint there

each-keeps : (model : List Constraint) (w : List ℕ) → ((j : ℕ) → j < length model → KeepsOne (constraint_at model j) w) → KeepsAll model w
each-keeps model w each = recursion_from_All (λ c. KeepsOne c w) model (All-from_get_or (λ c. KeepsOne c w) model no_constraint each)

both-keep : (xs ys : List Constraint) (w : List ℕ) → KeepsAll xs w → KeepsAll ys w → KeepsAll (xs ++ ys) w
both-keep [] ys w one two = two
both-keep (c ∷ xs) ys w one two = (one.0, both-keep xs ys w one.1 two)

front-keeps : (xs ys : List Constraint) (w : List ℕ) → KeepsAll (xs ++ ys) w → KeepsAll xs w
front-keeps [] ys w all = tt
front-keeps (c ∷ xs) ys w all = (all.0, front-keeps xs ys w all.1)

consistent-kept : (dropped : List Dropped) (w : List ℕ) → ((i : ℕ) → i < length dropped → (dropped_at dropped i).conflict ≡ false → KeepsOne (dropped_at dropped i).constraint w)
    → KeepsAll (consistent dropped) w
consistent-kept [] w each = tt
consistent-kept (d ∷ dropped) w each = first d.conflict refl (consistent-kept dropped w (λ i there no. each (suc i) (omega arith) no))
  where
    first : (b : Bool) → d.conflict ≡ b → KeepsAll (consistent dropped) w → KeepsAll (consistent (d ∷ dropped)) w
    first true e rest = rw e rest
    first false e rest = rw e (each 0 (omega arith) e, rest)

-- ---- what a right certificate says

module _ (claim : ClaimParts) (chain : ChainParts) (form : IsClaim claim) (long : length chain.links ≡ length claim.model) (is : IsRight claim chain) where
  last-accepts : (w : List ℕ) → IsTrace claim.symbols w → KeepsAll claim.model w → accepts (last chain.links) w ≡ true
  last-accepts w over keeps =
      subst (λ n. accepts (before chain.links n) w ≡ true) (sym long)
      (chain-accepts claim chain form is.links w over (keeps-each claim.model w keeps) (length claim.model) (omega arith))

  decided-at : (i : ℕ) → i < length claim.dropped → (w : List ℕ) → IsTrace claim.symbols w → KeepsAll claim.model w → (b : Bool) → (dropped_at claim.dropped i).conflict ≡ b
      → ((b ≡ false) → KeepsOne (dropped_at claim.dropped i).constraint w) × ((b ≡ true) → KeepsOne (dropped_at claim.dropped i).constraint w → ⊥)
  decided-at i there w over keeps b which =
      let d = dropped_at claim.dropped i in
      let one = is.implied i there in
      let made = (form.dropped_made i no_dropped there).made in
      let says : keeps_by one.table d.constraint w ≡ not b =
      pairs-decide claim.symbols (last chain.links) d one.table (list_at chain.implied i) one.decides w over (last-accepts w over keeps) ∙ ap not which in (
        λ no. (one.table_is.accepts d.constraint w made).0 (says ∙ ap not no),
        λ conflict keeps_it. false≢true (sym (says ∙ ap not conflict) ∙ (one.table_is.accepts d.constraint w made).1 keeps_it),
      )

  pub keeps-same : KeepsSame claim
  keeps-same w over = (
    λ keeps. both-keep claim.model (consistent claim.dropped) w keeps (consistent-kept claim.dropped w (λ i there no. (decided-at i there w over keeps false no).0 refl)),
    λ all. front-keeps claim.model (consistent claim.dropped) w all,
  )

  pub is-kept : IsKept claim
  is-kept = (form.example_over, each-keeps claim.model claim.example is.example)

  pub are-needed : AreNeeded claim
  are-needed i there =
      let witness = is.witnesses i there in
      let long = form.witness_for_each in
      record {
        over = form.witnesses_over i [] (omega (arith, long));
        keeps_others = witness.keeps_others;
        breaks_own = witness.breaks_own;
      }

  pub are-conflicts : AreConflicts claim
  are-conflicts i there conflict w over keeps = (decided-at i there w over keeps true conflict).1 refl
