-- Nothing here need be believed for the rules: none uses it. The record of document 01's example, as bytes; the marked examples
-- (crate examples) are written with it.
use Rattle.std.specs.Prelude.{List, [], ◌∷◌, ◌++◌, ℕ, zero, suc, ◌+◌, ◌/◌, ◌%◌, length}

-- v in n bytes, little-endian
unfoldable pub le : ℕ → ℕ → List ℕ
le zero v = []
le (suc n) v = v % 256 ∷ le n (v / 256)

-- a record of this size, number 1, with this between its written time and its second size
unfoldable pub record_of : ℕ → List ℕ → List ℕ
record_of size inner = (0x2a ∷ 0x2a ∷ 0 ∷ 0 ∷ []) ++ le 4 size ++ le 8 1 ++ le 8 0 ++ inner ++ le 4 size

-- the record at 512 whose definition has this element, with a value of this type in these bytes
unfoldable pub with_element : List ℕ → ℕ → List ℕ → List ℕ
unfolding le record_of
with_element element type content =
    record_of (78 + length element + length content) (
    (0x0f ∷ 1 ∷ 1 ∷ 0 ∷ [])
    ++ (0x0c ∷ 1 ∷ []) ++ le 4 0 ++ le 4 550
    ++ le 4 0 ++ le 16 0 ++ le 4 (4 + length element)
    ++ (0x0f ∷ 1 ∷ 1 ∷ 0 ∷ [])
    ++ element
    ++ le 4 1 ++ le 2 (length content) ++ (type ∷ 0 ∷ []) ++ content
    )

-- a name of one unit
unfoldable pub name_of : ℕ → List ℕ
unfolding le
name_of c = le 4 0 ++ le 2 0 ++ le 2 1 ++ (c ∷ 0 ∷ 0 ∷ 0 ∷ [])

-- the element `P` of that definition, with its token and with this behind its name; 00 ends the definition's data
unfoldable pub element_p : ℕ → List ℕ → List ℕ
unfolding le name_of
element_p token rest = (token ∷ 0xff ∷ 0xff ∷ []) ++ le 4 (16 + length rest) ++ le 4 589 ++ name_of 0x50 ++ rest ++ (0x00 ∷ [])

-- the record of the example: the element holds a normal substitution
unfoldable pub example : ℕ → List ℕ → List ℕ
unfolding with_element element_p
example type content = with_element (element_p 0x01 (0x02 ∷ 0x0d ∷ 0 ∷ 0 ∷ 5 ∷ 0x04 ∷ [])) type content

-- the element holds these units as a literal, and the value is not shown
unfoldable pub literal_example : List ℕ → List ℕ
unfolding le with_element element_p
literal_example units = with_element (element_p 0x01 ((0x02 ∷ 0x05 ∷ 0x01 ∷ []) ++ le 2 (length units / 2) ++ units ++ (0x04 ∷ []))) 0x00 []

-- the element is empty and has an attribute `a` of one optional substitution
unfoldable pub attribute_example : ℕ → List ℕ → List ℕ
unfolding le name_of with_element element_p
attribute_example type content =
    with_element (element_p 0x41 (le 4 21 ++ (0x06 ∷ []) ++ le 4 610 ++ name_of 0x61 ++ (0x0e ∷ 0 ∷ 0 ∷ 1 ∷ []) ++ (0x03 ∷ []))) type content
