-- Triples and pairs that a search found relate automata, and decide constraints.
use Rattle.std.proofs.Common.{◌≡◌, ◌↔◌, ℕ, ◌*◌, ◌/◌, ◌%◌, ◌^◌, ◌<◌, ◌≤◌, List, [], ◌∷◌, Bool, true, false, not, ◌&&◌, Option, Some, None, All, Contains, length, get_or, refl, sym, ap, ◌∙◌, arith, subst}
use Rattle.std.proofs.Math.Nat.{mul-le-mul_left}
use Rattle.std.proofs.lemmas.Nat.{div-mul-add, mod-mul-add, mod_below, div_below}
use Rattle.dfa_core.specs.Automaton.{Automaton, Accepts, SameLanguage, accepts, is_accepting, state_count, step, steps_of}
use Rattle.dfa_core.specs.Steps.{Steps, run as run_of}
use Rattle.dfa_core.specs.Traces.{IsTrace}
use Rattle.dfa_minimise.specs.Least.{IsLeast}
use Rattle.dfa_product.specs.Pairs.{IsMeet}
use Rattle.template_core.proofs.Made.{made-template}
use Rattle.template_core.specs.Constraints.{IsWellMade}
use Rattle.template_core.specs.Keeping.{KeepsOne}
use Rattle.template_core.specs.Tables.{IsTable, accepts_at, class, keeps_by, step as table_step}
use Rattle.template_core.specs.declared.constraint.Constraint.{Constraint}
use Rattle.template_core.specs.declared.table.Table.{Table}
use Rattle.template_set.specs.Tables.{Accepts as TableAccepts, IsLeastTable}
use Rattle.chain_cert.specs.Checks.{Decides, Relates, step_pair, step_triple}
use Rattle.chain_cert.specs.Forms.{FitsLink, FitsPairs, Holds, IsAscending, left, middle, right}
use Rattle.chain_cert.specs.Links.{is_accepting as link_accepts, state_count as link_states, step as link_step}
use Rattle.chain_cert.specs.Parts.{LinkParts}
use Rattle.chain_cert.specs.Tables.{IsTableOf}
use Rattle.chain_cert.specs.declared.claim.Dropped.{Dropped}
use Rattle.chain_make.specs.Beside.{AreBeside, LeadsToOne, pairs}
use Rattle.chain_make.specs.Copies.{Copies}
use Rattle.chain_make.specs.Entries.{entries, pair, triple}
use Rattle.chain_make.specs.Chains.{ArePairs, IsNext, Settles}
use Rattle.chain_make.proofs.Listing.{entries-all, entries-ascend, entries-have, pair-later, triple-later}
use Rattle.chain_make.proofs.Runs.{accepts-pairs, left-run, middle-run, one-least}
use Rattle.chain_make.proofs.Searches.{some-within}

both-true : (x y : Bool) → x ≡ true → y ≡ true → (x && y) ≡ true
both-true true y ex ey = ey
both-true false y ex ey = ex

-- a table with a state has a width
pub some-width : (t : Table) → IsTable t → 0 < t.states
some-width t is = omega (arith, is.some_states)

module _ (a : Automaton) (t : Table) (c : Constraint) (is : IsTable t) (beside : List (Option ℕ)) (many : length beside ≡ (pairs a t c).states) where
  pub left-below : (q : ℕ) → q < length beside → q / t.states < state_count a
  left-below q lt = let m : length beside ≡ state_count a * t.states = many in div_below q t.states (state_count a) (some-width t is) (omega (arith, lt, m))

  pub middle-below : (q : ℕ) → q % t.states < t.states
  middle-below q = mod_below q t.states (some-width t is)

  -- a link of the automaton
  module _ (link : LinkParts) (copy : Copies a link) where
    link-below : (q : ℕ) → q < length beside → q / t.states < link_states link
    link-below q lq = subst (λ (n : ℕ). q / t.states < n) (sym copy.states) (left-below q lq)

    start-left : (pairs a t c).start / t.states ≡ 0
    start-left = div-mul-add a.start t.states t.start is.start_bound ∙ copy.start

    start-middle : (pairs a t c).start % t.states ≡ t.start
    start-middle = mod-mul-add a.start t.states t.start is.start_bound

    step-left : (q s : ℕ) → q < length beside → s < a.symbols → (pairs a t c).next q s / t.states ≡ link_step link (q / t.states) s
    step-left q s lq ls =
        div-mul-add (step a (q / t.states) s) t.states (table_step t (q % t.states) (class c s)) (is.step_bound (q % t.states) (class c s) (middle-below q))
        ∙ sym (copy.steps (q / t.states) s (left-below q lq) ls)

    step-middle : (q s : ℕ) → (pairs a t c).next q s % t.states ≡ table_step t (q % t.states) (class c s)
    step-middle q s = mod-mul-add (step a (q / t.states) s) t.states (table_step t (q % t.states) (class c s)) (is.step_bound (q % t.states) (class c s) (middle-below q))

    -- what is accepted at the pair of states that a trace leads to
    left-accepts : (q : ℕ) (w : List ℕ) → q < length beside → run_of (pairs a t c) (pairs a t c).start w ≡ q → link_accepts link (q / t.states) ≡ accepts a w
    left-accepts q w lq e = copy.accepting (q / t.states) (left-below q lq) ∙ ap (is_accepting a) (ap (λ (n : ℕ). n / t.states) (sym e) ∙ left-run a t c is w)

    middle-accepts : (q : ℕ) (w : List ℕ) → run_of (pairs a t c) (pairs a t c).start w ≡ q → accepts_at t (q % t.states) ≡ keeps_by t c w
    middle-accepts q w e = ap (accepts_at t) (ap (λ (n : ℕ). n % t.states) (sym e) ∙ middle-run a t c is w)

    pub fits-link : (next : LinkParts) → IsTableOf c.kind t → length next.columns ≡ a.symbols → next.pairs ≡ entries (triple t.states) beside (length beside) → FitsLink a.symbols link c.kind next
    fits-link next table columns listed = record {
      columns = columns;
      table = t;
      table_is = table;
      left_below = subst (All (λ e. left e < link_states link)) (sym listed) (entries-all (triple t.states) beside (λ e. left e < link_states link) (length beside) (λ q r lq e. link-below q lq));
      middle_below = subst (All (λ e. middle e < t.states)) (sym listed) (entries-all (triple t.states) beside (λ e. middle e < t.states) (length beside) (λ q r lq e. middle-below q));
    }

    pub fits-pairs : (list : List (List ℕ)) → IsTableOf c.kind t → list ≡ entries (pair t.states) beside (length beside) → FitsPairs link c.kind list
    fits-pairs list table listed = record {
      table = t;
      table_is = table;
      left_below = subst (All (λ e. left e < link_states link)) (sym listed) (entries-all (pair t.states) beside (λ e. left e < link_states link) (length beside) (λ q r lq e. link-below q lq));
      middle_below = subst (All (λ e. middle e < t.states)) (sym listed) (entries-all (pair t.states) beside (λ e. middle e < t.states) (length beside) (λ q r lq e. middle-below q));
    }

    -- triples that end at the states of the next automaton
    module _ (l : Automaton) (next : LinkParts) (after : Copies l next) (led : AreBeside (pairs a t c) (steps_of l) beside) (listed : next.pairs ≡ entries (triple t.states) beside (length beside)) where
      has-triple : (q r x y z : ℕ) → get_or beside q None ≡ Some r → q / t.states ≡ x → q % t.states ≡ y → r ≡ z → Holds next.pairs (x ∷ y ∷ z ∷ [])
      has-triple q r x y z e ex ey ez =
          let one : q / t.states ∷ q % t.states ∷ r ∷ [] ≡ x ∷ y ∷ z ∷ [] = cc (ex, ey, ez) in
          let has = entries-have (triple t.states) beside (length beside) q r (some-within beside q r e) e in
          record { is_one = subst (Contains next.pairs) one (subst (λ (l : List (List ℕ)). Contains l (triple t.states q r)) (sym listed) has) }

      pub relates : l.symbols ≡ a.symbols → ((w : List ℕ) → IsTrace a.symbols w → accepts l w ≡ (accepts a w && keeps_by t c w)) → Relates a.symbols link c t next
      relates over both =
          record {
            starts = has-triple (pairs a t c).start l.start 0 t.start 0 led.start start-left start-middle after.start;
            closed = λ s ls. record {
              each = subst (All (λ e. Holds next.pairs (step_triple link t c next s e))) (sym listed) (entries-all (triple t.states) beside (λ e. Holds next.pairs (step_triple link t c next s e)) (length beside) (λ q r lq e.
                  has-triple ((pairs a t c).next q s) (step l r s) (link_step link (q / t.states) s) (table_step t (q % t.states) (class c s)) (link_step next r s) (led.stepped q r s e ls)
                  (step-left q s lq ls) (step-middle q s) (sym (after.steps r s (led.below q r e) (rw over ls)))));
            };
            accepts = subst (All (λ e. link_accepts link (left e) ≡ true → accepts_at t (middle e) ≡ true → link_accepts next (right e) ≡ true)) (sym listed)
                (entries-all (triple t.states) beside (λ e. link_accepts link (left e) ≡ true → accepts_at t (middle e) ≡ true → link_accepts next (right e) ≡ true) (length beside) (λ q r lq e by_left by_middle.
                let b = led.led q r e in
                let one : accepts a b.by ≡ true = sym (left-accepts q b.by lq b.first) ∙ by_left in
                let two : keeps_by t c b.by ≡ true = sym (middle-accepts q b.by b.first) ∙ by_middle in
                let all : accepts l b.by ≡ true = both b.by b.over ∙ both-true (accepts a b.by) (keeps_by t c b.by) one two in
                after.accepting r (led.below q r e) ∙ (ap (is_accepting l) (sym b.second) ∙ all)));
          }

    -- pairs alone
    module _ (s : Steps) (list : List (List ℕ)) (led : AreBeside (pairs a t c) s beside) (listed : list ≡ entries (pair t.states) beside (length beside)) where
      has-pair : (q r x y : ℕ) → get_or beside q None ≡ Some r → q / t.states ≡ x → q % t.states ≡ y → Holds list (x ∷ y ∷ [])
      has-pair q r x y e ex ey =
          let one : q / t.states ∷ q % t.states ∷ [] ≡ x ∷ y ∷ [] = cc (ex, ey) in
          let has = entries-have (pair t.states) beside (length beside) q r (some-within beside q r e) e in
          record { is_one = subst (Contains list) one (subst (λ (l : List (List ℕ)). Contains l (pair t.states q r)) (sym listed) has) }

      pub decides : (conflict : Bool) → ((w : List ℕ) → IsTrace a.symbols w → Accepts a w → keeps_by t c w ≡ not conflict) → Decides a.symbols link (record { constraint = c; conflict = conflict }) t list
      decides conflict settled = record {
        starts = has-pair (pairs a t c).start s.start 0 t.start led.start start-left start-middle;
        closed = λ x lx. record {
          each = subst (All (λ e. Holds list (step_pair link t c x e))) (sym listed) (entries-all (pair t.states) beside (λ e. Holds list (step_pair link t c x e)) (length beside) (λ q r lq e.
              has-pair ((pairs a t c).next q x) (s.next r x) (link_step link (q / t.states) x) (table_step t (q % t.states) (class c x)) (led.stepped q r x e lx) (step-left q x lq lx) (step-middle q x)));
        };
        accepts = subst (All (λ e. link_accepts link (left e) ≡ true → accepts_at t (middle e) ≡ not conflict)) (sym listed)
            (entries-all (pair t.states) beside (λ e. link_accepts link (left e) ≡ true → accepts_at t (middle e) ≡ not conflict) (length beside) (λ q r lq e by_left.
            let b = led.led q r e in
            let one : accepts a b.by ≡ true = sym (left-accepts q b.by lq b.first) ∙ by_left in
            middle-accepts q b.by b.first ∙ settled b.by b.over one));
      }

-- ---- what the next automaton accepts

and-both : (x y : Bool) → (x && y) ≡ true → (x ≡ true) × (y ≡ true)
and-both true y e = (refl, e)
and-both false y e = absurd (cc e)

-- a table tells what keeps a constraint
pub table-keeps : (t : Table) (c : Constraint) → IsTableOf c.kind t → IsWellMade c.kind c.first c.second → (w : List ℕ) → keeps_by t c w ≡ true ↔ KeepsOne c w
table-keeps t c table made w = table.accepts c w made

pub next-is : (a both next : Automaton) (t : Table) (c : Constraint) (beside : List (Option ℕ)) (link : LinkParts) → IsTableOf c.kind t → IsWellMade c.kind c.first c.second
    → IsMeet a t c both → SameLanguage next both → IsLeast next → AreBeside (pairs a t c) (steps_of next) beside → Copies next link → length link.columns ≡ next.symbols
    → link.pairs ≡ entries (triple t.states) beside (length beside) → IsNext a c next link
next-is a both next t c beside link table made meets same least led copy columns listed =
    let over : next.symbols ≡ a.symbols = same.over ∙ meets.over in
    let accepts-both : (w : List ℕ) → IsTrace a.symbols w → accepts next w ≡ (accepts a w && keeps_by t c w) = λ w tw. same.same w (rw over tw) ∙ meets.both w tw in
    record {
      over = over;
      keeps = λ w tw.
          let is = table-keeps t c table made w in
          (λ yes. let parts = and-both (accepts a w) (keeps_by t c w) (sym (accepts-both w tw) ∙ yes) in (parts.0, is.0 parts.1), λ yes. accepts-both w tw ∙ both-true (accepts a w) (keeps_by t c w) yes.0 (is.1 yes.1));
      copied = copy;
      fits = λ automaton before. fits-link a t c table.whole beside led.as_many automaton before link table (columns ∙ over) listed;
      related = λ automaton before. record {
        table = t;
        table_is = table;
        relates = relates a t c table.whole beside led.as_many automaton before next link copy led listed over accepts-both;
      };
    }

-- traces that lead to one pair lead to one state of the next automaton
pub next-one : (a both next : Automaton) (t : Table) (c : Constraint) → IsTable t → IsMeet a t c both → SameLanguage next both → IsLeast next → LeadsToOne (pairs a t c) (steps_of next)
next-one a both next t c is meets same least =
    let over : next.symbols ≡ a.symbols = same.over ∙ meets.over in
    one-least (pairs a t c) next least over (λ w tw. same.same w (rw over tw) ∙ (meets.both w tw ∙ sym (accepts-pairs a t c is w)))

-- what is dropped is settled by the table
pub settled : (a : Automaton) (t : Table) (d : Dropped) → IsTableOf d.constraint.kind t → IsWellMade d.constraint.kind d.constraint.first d.constraint.second → Settles a d
    → (w : List ℕ) → IsTrace a.symbols w → Accepts a w → keeps_by t d.constraint w ≡ not d.conflict
settled a t d table made settles w tw accepted = go d.conflict refl
  where
    keeps : keeps_by t d.constraint w ≡ true ↔ KeepsOne d.constraint w
    keeps = table-keeps t d.constraint table made w

    lacks : (b : Bool) → (b ≡ true → ⊥) → b ≡ false
    lacks true never = absurd (never refl)
    lacks false never = refl

    go : (b : Bool) → d.conflict ≡ b → keeps_by t d.constraint w ≡ not b
    go true e = lacks (keeps_by t d.constraint w) (λ keeps2. settles.conflict e w tw accepted (keeps.0 keeps2))
    go false e = keeps.1 (settles.implied e w tw accepted)

pub pairs-are : (a : Automaton) (t : Table) (d : Dropped) (s : Steps) (beside : List (Option ℕ)) (list : List (List ℕ)) → IsTableOf d.constraint.kind t
    → IsWellMade d.constraint.kind d.constraint.first d.constraint.second → Settles a d → AreBeside (pairs a t d.constraint) s beside → list ≡ entries (pair t.states) beside (length beside) → ArePairs a d list
pairs-are a t d s beside list table made settles led listed = record {
  fit = λ automaton copy. fits-pairs a t d.constraint table.whole beside led.as_many automaton copy list table listed;
  decided = λ automaton copy. record {
    table = t;
    table_is = table;
    decides = decides a t d.constraint table.whole beside led.as_many automaton copy s list led listed d.conflict (settled a t d table made settles);
  };
}

-- ---- what the calls ask

pub table-is : (c : Constraint) (t : Table) → IsWellMade c.kind c.first c.second → IsTable t → TableAccepts c.kind t → IsLeastTable c.kind t → IsTableOf c.kind t
table-is c t made whole accepts least = record {
  template = made-template c.kind c.first c.second made;
  whole = whole;
  accepts = accepts;
  least = least;
}

pub pairs-fit : (n w : ℕ) → n ≤ 357913941 → w ≤ 12 → n * w < 2 ^ 32
pairs-fit n w few narrow =
    let a : n * w ≤ n * 12 = mul-le-mul_left n narrow in
    omega (arith, a, few)

pub triples-ascend : (w : ℕ) (beside : List (Option ℕ)) (list : List (List ℕ)) → 0 < w → list ≡ entries (triple w) beside (length beside) → IsAscending list
triples-ascend w beside list some listed = subst IsAscending (sym listed) (entries-ascend (triple w) beside (λ p q r k lt. triple-later w p q r k some lt) (length beside))

pub pairs-ascend : (w : ℕ) (beside : List (Option ℕ)) (list : List (List ℕ)) → 0 < w → list ≡ entries (pair w) beside (length beside) → IsAscending list
pairs-ascend w beside list some listed = subst IsAscending (sym listed) (entries-ascend (pair w) beside (λ p q r k lt. pair-later w p q r k some lt) (length beside))

pub triples-end : (w : ℕ) (s t : Steps) (beside : List (Option ℕ)) (list : List (List ℕ)) → AreBeside s t beside → list ≡ entries (triple w) beside (length beside) → All (λ e. right e < t.states) list
triples-end w s t beside list led listed = subst (All (λ e. right e < t.states)) (sym listed) (entries-all (triple w) beside (λ e. right e < t.states) (length beside) (λ q r lq e. led.below q r e))
