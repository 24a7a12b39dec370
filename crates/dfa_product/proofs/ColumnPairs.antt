-- Columns of two automata side by side.
use Rattle.std.proofs.Common.{◌≡◌, ℕ, ◌+◌, ◌*◌, ◌/◌, ◌%◌, ◌<◌, ◌≤◌, Bool, true, false, eqb, if◌then◌else◌, refl, ap, arith}
use Rattle.std.proofs.lemmas.Nat.{mul-add-lt, same_from_place}
use Rattle.std.proofs.Math.Nat.{mul_comm}
use Rattle.dfa_core.specs.Automaton.{Automaton, IsWhole, column}
use Rattle.dfa_core.specs.Columns.{AreColumns, Columns, HasColumns, columns_of}
use Rattle.dfa_core.specs.Steps.{Steps}
use Rattle.dfa_core.proofs.ColumnCounts.{few-columns}
use Rattle.template_core.specs.Tables.{class, column as class_column, step as table_step}
use Rattle.template_core.specs.declared.class.Class.{Class}
use Rattle.template_core.specs.declared.class.Class.TheVariants.{First, Second, Other}
use Rattle.template_core.specs.declared.constraint.Constraint.{Constraint}
use Rattle.template_core.specs.declared.table.Table.{Table}
use Rattle.dfa_product.specs.Pairs.{HasPairsOfColumns, activities}
use Rattle.dfa_product.specs.SideBySide.{complement, pair_columns, pairs, table_columns, table_steps}

-- symbols of one pair of columns lead alike on both sides
pub columns-pairs : (s t : Steps) (c d : Columns) → t.symbols ≡ s.symbols → AreColumns s c → AreColumns t d → AreColumns (pairs s t) (pair_columns c d)
columns-pairs s t c d same h k = record {
  bound = λ x lx.
      let m = mul_comm d.count c.count in
      let b = mul-add-lt (c.of x) d.count (d.of x) c.count (h.bound x lx) (k.bound x (omega (arith, same, lx))) in omega (arith, b, m);
  alike = λ q x y lx ly e.
      let kx : x < t.symbols = omega (arith, same, lx) in
      let ky : y < t.symbols = omega (arith, same, ly) in
      let both = same_from_place (c.of x) (d.of x) (c.of y) (d.of y) d.count (k.bound x kx) (k.bound y ky) e in
      rw (h.alike (q / t.states) x y lx ly both.0, k.alike (q % t.states) x y kx ky both.1) refl;
}

pub columns-complement : (s : Steps) (c : Columns) → AreColumns s c → AreColumns (complement s) c
columns-complement s c h = record { bound = h.bound; alike = h.alike }

class_column-lt : (class : Class) → class_column class < 3
class_column-lt First = omega arith
class_column-lt Second = omega arith
class_column-lt Other = omega arith

pub columns-table : (n : ℕ) (t : Table) (c : Constraint) (keeps : Bool) → AreColumns (table_steps n t c keeps) (table_columns c)
unfolding table_step
columns-table n t c keeps = record {
  bound = λ x lx. class_column-lt (class c x);
  alike = λ q x y lx ly e. rw e refl;
}

pub intersection-columns : (a b r : Automaton) → IsWhole b → b.symbols ≡ a.symbols → r.symbols ≡ a.symbols → HasColumns (pair_columns (columns_of a) (columns_of b)) r → HasPairsOfColumns a b r
intersection-columns a b r h same over k = record {
  together = λ x y lx ly e f. k.together x y lx ly (rw (e, f) refl);
  apart = λ x y lx ly e. same_from_place (column a x) (column b x) (column a y) (column b y) b.width (h.column_bound x (omega (arith, same, over, lx))) (h.column_bound y (omega (arith, same, over, ly))) (k.apart x y lx ly e);
  some = k.some;
}

-- ---- a constraint

-- a column's number, or one for each activity
abbrev value : Automaton → Constraint → ℕ → ℕ
value a c x = if eqb x c.first then a.width else (if eqb x c.second then a.width + 1 else column a x)

module _ (a : Automaton) (c : Constraint) where
  abbrev columns : Columns
  columns = pair_columns (columns_of a) (table_columns c)

  value-bound : (x : ℕ) → column a x < a.width → value a c x < a.width + activities c
  value-bound x b = go (eqb x c.first) (eqb x c.second) (eqb c.first c.second) refl refl refl
    where
      go : (i j k : Bool) → eqb x c.first ≡ i → eqb x c.second ≡ j → eqb c.first c.second ≡ k → (if i then a.width else (if j then a.width + 1 else column a x)) < a.width + (if k then 1 else 2)
      go true j true ei ej ek = omega arith
      go true j false ei ej ek = omega arith
      go false true true ei ej ek = let one : x ≡ c.first = grind (arith, ej, ek) in absurd (grind (arith, ei, one))
      go false true false ei ej ek = omega arith
      go false false true ei ej ek = omega (arith, b)
      go false false false ei ej ek = omega (arith, b)

  value-same : (x y : ℕ) → column a x < a.width → column a y < a.width → value a c x ≡ value a c y → columns.of x ≡ columns.of y
  value-same x y bx by_ = go (eqb x c.first) (eqb x c.second) (eqb y c.first) (eqb y c.second) refl refl refl refl
    where
      of : Bool → Bool → ℕ → ℕ
      of i j z = column a z * 3 + class_column (if i then First else (if j then Second else Other))

      go : (i j k l : Bool) → eqb x c.first ≡ i → eqb x c.second ≡ j → eqb y c.first ≡ k → eqb y c.second ≡ l
          → (if i then a.width else (if j then a.width + 1 else column a x)) ≡ (if k then a.width else (if l then a.width + 1 else column a y)) → of i j x ≡ of k l y
      go true j true l ei ej ek el e = let same : x ≡ y = grind (arith, ei, ek) in ap (λ (z : ℕ). column a z * 3 + 0) same
      go true j false true ei ej ek el e = absurd (omega (arith, e))
      go true j false false ei ej ek el e = absurd (omega (arith, e, by_))
      go false true true l ei ej ek el e = absurd (omega (arith, e))
      go false true false true ei ej ek el e = let same : x ≡ y = grind (arith, ej, el) in ap (λ (z : ℕ). column a z * 3 + 1) same
      go false true false false ei ej ek el e = absurd (omega (arith, e, by_))
      go false false true l ei ej ek el e = absurd (omega (arith, e, bx))
      go false false false true ei ej ek el e = absurd (omega (arith, e, bx))
      go false false false false ei ej ek el e = ap (λ (k : ℕ). k * 3 + 2) e

  pub meet-columns : (r : Automaton) → HasColumns columns r → r.width ≤ a.width + activities c
  meet-columns r k =
      few-columns columns r (value a c) (a.width + activities c) k (λ x lx. value-bound x (in_width x (k.within x lx))) (λ x y lx ly e. value-same x y (in_width x (k.within x lx)) (in_width y (k.within y ly)) e)
    where
      in_width : (x : ℕ) → columns.of x < columns.count → column a x < a.width
      in_width x lt = omega (arith, lt)
