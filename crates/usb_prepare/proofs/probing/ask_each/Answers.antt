use Rattle.std.proofs.Common.{true, false}
use Rattle.usb_prepare.proofs.Answering.{keyboard_asked, acm_asked, printer_asked, keyboard_tells, acm_tells, printer_tells}
use Rattle.usb_prepare.proofs.probing.ask_each.Goals as goal

pub returns-then-ask_keyboard-clause-asked : goal.returns-then-ask_keyboard-clause-asked
returns-then-ask_keyboard-clause-asked c = keyboard_asked c.args.device.now c.ask_keyboard.new.device c.args.driver c.args.interface c.ask_keyboard.result true c.in-Keyboard.is c.ask_keyboard.ensures.asked c.if-ask_keyboard.true

pub returns-then-ask_keyboard-clause-told : goal.returns-then-ask_keyboard-clause-told
returns-then-ask_keyboard-clause-told c = keyboard_tells c.args.device.now c.args.driver c.args.interface c.ask_keyboard.new.room c.in-Keyboard.is

pub returns-else-ask_keyboard-clause-asked : goal.returns-else-ask_keyboard-clause-asked
returns-else-ask_keyboard-clause-asked c = keyboard_asked c.args.device.now c.ask_keyboard.new.device c.args.driver c.args.interface c.ask_keyboard.result false c.in-Keyboard.is c.ask_keyboard.ensures.asked c.if-ask_keyboard.false

pub returns-in-Acm-clause-asked : goal.returns-in-Acm-clause-asked
returns-in-Acm-clause-asked c = acm_asked c.args.device.now c.args.device.now c.args.driver c.args.interface c.in-Acm.is

pub returns-in-Acm-clause-told : goal.returns-in-Acm-clause-told
returns-in-Acm-clause-told c = acm_tells c.args.device.now c.args.driver c.args.interface c.args.room.now c.in-Acm.is

pub returns-in-Printer-clause-asked : goal.returns-in-Printer-clause-asked
returns-in-Printer-clause-asked c = printer_asked c.args.device.now c.ask_id.new.device c.args.driver c.args.interface _ c.in-Printer.is c.ask_id.ensures.asked

pub returns-in-Printer-clause-told : goal.returns-in-Printer-clause-told
returns-in-Printer-clause-told c = printer_tells c.args.device.now c.args.driver c.args.interface c.ask_id.new.room c.ask_id.result c.in-Printer.is c.ask_id.ensures.told
