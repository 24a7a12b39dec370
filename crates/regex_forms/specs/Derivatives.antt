-- Derivatives: the trees that match what is left of a word after its first class. A list of trees stands for what one of them matches.
use Rattle.std.specs.Prelude.{List, [], ◌∷◌, ◌++◌, Bool, true, false, ◌&&◌, ◌||◌}
use Rattle.std.specs.Bool.{beq}
use Rattle.regex_forms.specs.Matching.{has_class}
use Rattle.regex_forms.specs.Trees.{Tree, set, in_order, one_of, star, maybe, Parts, no_part, part}
use Rattle.template_core.specs.declared.class.Class.{Class}

abbrev mutual
  -- whether two trees are the same
  pub same : Tree → Tree → Bool
  same (set a b c) (set d e f) = beq a d && (beq b e && beq c f)
  same (in_order parts) (in_order others) = same_parts parts others
  same (one_of parts) (one_of others) = same_parts parts others
  same (star tree) (star other) = same tree other
  same (maybe tree) (maybe other) = same tree other
  same tree other = false

  pub same_parts : Parts → Parts → Bool
  same_parts no_part no_part = true
  same_parts (part tree parts) (part other others) = same tree other && same_parts parts others
  same_parts parts others = false

-- the tree stands in the list
abbrev pub stands_in : List Tree → Tree → Bool
stands_in [] tree = false
stands_in (other ∷ trees) tree = same other tree || stands_in trees tree

abbrev pub with_if : Bool → List Tree → Tree → List Tree
with_if true trees tree = trees
with_if false trees tree = trees ++ tree ∷ []

-- the trees, and behind them those that they lack
abbrev pub joined : List Tree → List Tree → List Tree
joined trees [] = trees
joined trees (tree ∷ more) = joined (with_if (stands_in trees tree) trees tree) more

abbrev mutual
  -- whether a tree matches the empty word
  pub has_empty : Tree → Bool
  has_empty (set first second other) = false
  has_empty (in_order parts) = all_have_empty parts
  has_empty (one_of parts) = one_has_empty parts
  has_empty (star tree) = true
  has_empty (maybe tree) = true

  pub all_have_empty : Parts → Bool
  all_have_empty no_part = true
  all_have_empty (part tree parts) = has_empty tree && all_have_empty parts

  pub one_has_empty : Parts → Bool
  one_has_empty no_part = false
  one_has_empty (part tree parts) = has_empty tree || one_has_empty parts

-- each tree, with the parts behind it
abbrev pub ahead_of : Parts → List Tree → List Tree
ahead_of parts [] = []
ahead_of parts (tree ∷ trees) = in_order (part tree parts) ∷ ahead_of parts trees

-- the same, where no tree is put in order alone: so a tree has a finite number of derivatives of derivatives
abbrev pub before : Parts → List Tree → List Tree
before no_part trees = trees
before (part tree parts) trees = ahead_of (part tree parts) trees

abbrev pub only_if : Bool → List Tree → List Tree
only_if true trees = trees
only_if false trees = []

abbrev mutual
  pub derivatives : Tree → Class → List Tree
  derivatives (set first second other) class = only_if (has_class first second other class) (in_order no_part ∷ [])
  derivatives (in_order parts) class = derivatives_in_order parts class
  derivatives (one_of parts) class = derivatives_of_any parts class
  derivatives (star tree) class = before (part (star tree) no_part) (derivatives tree class)
  derivatives (maybe tree) class = derivatives tree class

  pub derivatives_in_order : Parts → Class → List Tree
  derivatives_in_order no_part class = []
  derivatives_in_order (part tree parts) class =
      before parts (derivatives tree class) ++ only_if (has_empty tree) (derivatives_in_order parts class)

  pub derivatives_of_any : Parts → Class → List Tree
  derivatives_of_any no_part class = []
  derivatives_of_any (part tree parts) class = derivatives tree class ++ derivatives_of_any parts class

-- the derivatives of all trees, each once, behind those that are there
abbrev pub step_onto : List Tree → List Tree → Class → List Tree
step_onto found [] class = found
step_onto found (tree ∷ trees) class = step_onto (joined found (derivatives tree class)) trees class

abbrev pub step : List Tree → Class → List Tree
step trees class = step_onto [] trees class

abbrev pub some_has_empty : List Tree → Bool
some_has_empty [] = false
some_has_empty (tree ∷ trees) = has_empty tree || some_has_empty trees

-- whether one of the trees matches the word
abbrev pub accepted : List Tree → List Class → Bool
accepted trees [] = some_has_empty trees
accepted trees (class ∷ word) = accepted (step trees class) word
