-- the rows of a first letter
use Rattle.std.specs.Prelude.{ℕ, ◌==◌, List, [], if◌then◌else◌}
use Rattle.opentype_tags.specs.declared.rows.a_to_b.TheConstants.{A, B}
use Rattle.opentype_tags.specs.declared.rows.c_to_h.TheConstants.{C, D, E, F, G, H}
use Rattle.opentype_tags.specs.declared.rows.i_to_l.TheConstants.{I, J, K, L}
use Rattle.opentype_tags.specs.declared.rows.m_to_o.TheConstants.{M, N, O}
use Rattle.opentype_tags.specs.declared.rows.p_to_s.TheConstants.{P, Q, R, S}
use Rattle.opentype_tags.specs.declared.rows.t_to_z.TheConstants.{T, U, V, W, X, Y, Z}

abbrev pub rows_of : ℕ → List (ℕ × ℕ)
rows_of letter =
    if letter == 97 then A
    else if letter == 98 then B
    else if letter == 99 then C
    else if letter == 100 then D
    else if letter == 101 then E
    else if letter == 102 then F
    else if letter == 103 then G
    else if letter == 104 then H
    else if letter == 105 then I
    else if letter == 106 then J
    else if letter == 107 then K
    else if letter == 108 then L
    else if letter == 109 then M
    else if letter == 110 then N
    else if letter == 111 then O
    else if letter == 112 then P
    else if letter == 113 then Q
    else if letter == 114 then R
    else if letter == 115 then S
    else if letter == 116 then T
    else if letter == 117 then U
    else if letter == 118 then V
    else if letter == 119 then W
    else if letter == 120 then X
    else if letter == 121 then Y
    else if letter == 122 then Z
    else []
