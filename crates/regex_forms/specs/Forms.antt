-- The form of each template.
use Rattle.std.specs.Prelude.{List, [], ◌∷◌, ◌++◌, replicate, true, false}
use Rattle.regex_forms.specs.Trees.{Tree, set, in_order, one_of, star, maybe, parts_of}
use Rattle.template_core.specs.declared.kind.Kind.{Kind}
use Rattle.template_core.specs.declared.kind.Kind.TheVariants.{Init, End, Participation, AtMostOne, ChainSuccession, AlternateSuccession, Succession, CoExistence, ChainResponse, AlternateResponse, Response, ChainPrecedence, AlternatePrecedence, Precedence, RespondedExistence, NotCoExistence, NotSuccession, NotChainSuccession, Exactly, AtLeast, AtMost, NotRespondedExistence, NotResponse, NotPrecedence, NotChainResponse, NotChainPrecedence}

abbrev pub a : Tree
a = set true false false

abbrev pub b : Tree
b = set false true false

abbrev pub x : Tree
x = set false false true

abbrev pub ax : Tree
ax = set true false true

abbrev pub bx : Tree
bx = set false true true

abbrev pub abx : Tree
abx = set true true true

-- the trees one after the other
abbrev pub sequence : List Tree → Tree
sequence trees = in_order (parts_of trees)

-- one of the trees
abbrev pub choice : List Tree → Tree
choice trees = one_of (parts_of trees)

-- any number of times: the tree, or the trees one after the other
abbrev pub rounds : Tree → List Tree → Tree
rounds tree trees = star (choice (tree ∷ sequence trees ∷ []))

-- any number of the tree, or the trees one after the other
abbrev pub none_or : Tree → List Tree → Tree
none_or tree trees = choice (star tree ∷ sequence trees ∷ [])

-- never both `a` and `b`
abbrev pub never_both : Tree
never_both = choice (star ax ∷ star bx ∷ [])

-- no `b` behind an `a`
abbrev pub never_later : Tree
never_later = sequence (star bx ∷ star ax ∷ [])

-- no `b` right behind an `a`
abbrev pub never_next : Tree
never_next = sequence (rounds bx (a ∷ star a ∷ x ∷ []) ∷ star a ∷ [])

abbrev pub tree_of : Kind → Tree
tree_of Init = sequence (a ∷ star ax ∷ [])
tree_of End = sequence (star ax ∷ a ∷ [])
tree_of Participation = sequence (star x ∷ a ∷ star ax ∷ [])
tree_of AtMostOne = none_or x (star x ∷ a ∷ star x ∷ [])
tree_of ChainSuccession = rounds x (a ∷ b ∷ [])
tree_of AlternateSuccession = rounds x (a ∷ star x ∷ b ∷ [])
tree_of Succession = none_or x (star x ∷ a ∷ star abx ∷ b ∷ star x ∷ [])
tree_of CoExistence =
    choice (star x ∷ sequence (star abx ∷ a ∷ star abx ∷ b ∷ star abx ∷ []) ∷ sequence (star abx ∷ b ∷ star abx ∷ a ∷ star abx ∷ []) ∷ [])
tree_of ChainResponse = rounds bx (a ∷ b ∷ [])
tree_of AlternateResponse = rounds bx (a ∷ star x ∷ b ∷ [])
tree_of Response = rounds bx (a ∷ star ax ∷ b ∷ [])
tree_of ChainPrecedence = rounds ax (a ∷ b ∷ [])
tree_of AlternatePrecedence = sequence (star (sequence (star x ∷ a ∷ star ax ∷ b ∷ [])) ∷ star ax ∷ [])
tree_of Precedence = none_or x (star x ∷ a ∷ star abx ∷ [])
tree_of RespondedExistence = none_or bx (star abx ∷ b ∷ star abx ∷ [])
tree_of NotCoExistence = never_both
tree_of NotSuccession = never_later
tree_of NotChainSuccession = never_next
tree_of (Exactly n) = sequence (star x ∷ replicate n (sequence (a ∷ star x ∷ [])))
tree_of (AtLeast n) = sequence (replicate n (sequence (star x ∷ a ∷ [])) ++ star ax ∷ [])
tree_of (AtMost n) = sequence (star x ∷ replicate n (maybe (sequence (a ∷ star x ∷ []))))
tree_of NotRespondedExistence = never_both
tree_of NotResponse = never_later
tree_of NotPrecedence = never_later
tree_of NotChainResponse = never_next
tree_of NotChainPrecedence = never_next
