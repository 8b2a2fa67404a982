-- The levels of the serial ports' lines that were sampled last.
use Rattle.std.proofs.Common.{◌≡◌, ℕ, Bool, true, false, not, ◌&&◌, refl, sym, ap, subst, ◌∙◌}
use Rattle.uart_16550.specs.SerialPort.{SerialPort, line_of}
use Rattle.port_map.specs.declared.com_port.ComPort.{ComPort}
use Rattle.port_map.specs.declared.com_port.ComPort.TheVariants.{Com1, Com2}
use Rattle.port_map.specs.Serial.{sampled_now, rose}
use Rattle.port_board.specs.Board.{Rising, rises_if, rises_at_once, com1_sampled, com2_sampled, sampled, accessed, with_port, with_serial, serial_of, all_sampled, IsSampled}
use Rattle.port_board.specs.declared.board.Board.{Board}

-- a rise changes no level and no port
rise_samples : (rose : Bool) (n : ℕ) (s : Rising) → IsSampled s.board → IsSampled (rises_if rose n s).board
rise_samples true n s k = record { com1 = k.com1; com2 = k.com2 }
rise_samples false n s k = k

rise_com1 : (rose : Bool) (n : ℕ) (s : Rising) → s.board.com1_high ≡ line_of s.board.com1 → (rises_if rose n s).board.com1_high ≡ line_of (rises_if rose n s).board.com1
rise_com1 true n s k = k
rise_com1 false n s k = k

-- after a sampling of both the levels are those of the lines
pub sampled_samples : (s : Rising) → IsSampled (sampled s).board
sampled_samples s =
    let t = com1_sampled s in
    let first = rise_com1 (line_of s.board.com1 && not s.board.com1_high) 4 (record s { board = record s.board { com1_high = line_of s.board.com1 } }) refl in
    rise_samples (line_of t.board.com2 && not t.board.com2_high) 3 (record t { board = record t.board { com2_high = line_of t.board.com2 } }) (record { com1 = first; com2 = refl })

at_once_samples : (rose : Bool) (n : ℕ) (b : Board) → IsSampled b → IsSampled (rises_at_once rose n b)
at_once_samples true n b k = record { com1 = k.com1; com2 = k.com2 }
at_once_samples false n b k = k

-- and after a sampling of one they are still, where they were before
pub accessed_samples : (which : ComPort) (p : SerialPort) (b : Board) → IsSampled b → IsSampled (accessed which (sampled_now p) b)
accessed_samples Com1 p b k =
    at_once_samples (rose (serial_of Com1 b) (sampled_now p)) 4 (with_serial Com1 (sampled_now p) b) (record { com1 = refl; com2 = k.com2 })
accessed_samples Com2 p b k =
    at_once_samples (rose (serial_of Com2 b) (sampled_now p)) 3 (with_serial Com2 (sampled_now p) b) (record { com1 = k.com1; com2 = refl })

-- a sampling that finds a level as it was
same_level : (rose : Bool) (n : ℕ) (s : Rising) → rose ≡ false → rises_if rose n s ≡ s
same_level true n s e = absurd (cc)
same_level false n s e = refl

-- what a sampling of both leaves, with the rises beside it
abbrev pub kept_beside : Rising → Board
kept_beside s = record s.board { rises = s.lines }

com1_beside : (rose : Bool) (b : Board) → rises_at_once rose 4 b ≡ kept_beside (rises_if rose 4 (record { board = b; lines = b.rises }))
com1_beside true b = refl
com1_beside false b = refl

com2_beside : (rose : Bool) (b : Board) → rises_at_once rose 3 b ≡ kept_beside (rises_if rose 3 (record { board = b; lines = b.rises }))
com2_beside true b = refl
com2_beside false b = refl

again : (high line : Bool) → high ≡ line → line && not high ≡ false
again true line e = rw (← e) refl
again false line e = rw (← e) refl

rise_com2 : (rose : Bool) (n : ℕ) (s : Rising) → s.board.com2_high ≡ line_of s.board.com2 → (rises_if rose n s).board.com2_high ≡ line_of (rises_if rose n s).board.com2
rise_com2 true n s k = k
rise_com2 false n s k = k

level_kept : (s : Rising) → s.board.com2_high ≡ line_of s.board.com2 → record s { board = record s.board { com2_high = line_of s.board.com2 } } ≡ s
level_kept s e = ap (λ (h : Bool). record s { board = record s.board { com2_high = h } }) (sym e)

com2_same : (s : Rising) → s.board.com2_high ≡ line_of s.board.com2 → com2_sampled s ≡ s
com2_same s e =
    same_level (line_of s.board.com2 && not s.board.com2_high) 3 (record s { board = record s.board { com2_high = line_of s.board.com2 } }) (again s.board.com2_high (line_of s.board.com2) e)
    ∙ level_kept s e

level1_kept : (s : Rising) → s.board.com1_high ≡ line_of s.board.com1 → record s { board = record s.board { com1_high = line_of s.board.com1 } } ≡ s
level1_kept s e = ap (λ (h : Bool). record s { board = record s.board { com1_high = h } }) (sym e)

com1_same : (s : Rising) → s.board.com1_high ≡ line_of s.board.com1 → com1_sampled s ≡ s
com1_same s e =
    same_level (line_of s.board.com1 && not s.board.com1_high) 4 (record s { board = record s.board { com1_high = line_of s.board.com1 } }) (again s.board.com1_high (line_of s.board.com1) e)
    ∙ level1_kept s e

-- a sampling of one line alone is one of both, where the other's level is that of its line
pub port_alone : (which : ComPort) (p : SerialPort) (b : Board) → IsSampled b → accessed which (sampled_now p) b ≡ all_sampled (with_port which p b)
port_alone Com1 p b k =
    let start : Rising = record { board = with_port Com1 p b; lines = b.rises } in
    let level = rise_com2 (line_of p && not b.com1_high) 4 (record start { board = record start.board { com1_high = line_of p } }) k.com2 in
    com1_beside (line_of p && not b.com1_high) (with_serial Com1 (sampled_now p) b) ∙ ap kept_beside (sym (com2_same (com1_sampled start) level))
port_alone Com2 p b k =
    let start : Rising = record { board = with_port Com2 p b; lines = b.rises } in
    com2_beside (line_of p && not b.com2_high) (with_serial Com2 (sampled_now p) b) ∙ ap (λ s. kept_beside (com2_sampled s)) (sym (com1_same start k.com1))

pub sampled_of : (b : Board) (n : ℕ) (s : Rising) → record { board = b; lines = n } ≡ sampled s → IsSampled b
sampled_of b n s e = subst (λ (r : Rising). IsSampled r.board) (sym e) (sampled_samples s)
